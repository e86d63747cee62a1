-- What a publish leaves of a folder.
use Rattle.std.specs.Prelude.{◌≡◌, ◌+◌, ℕ, Bool, true, List, Option, Some, None, Result, Ok, IfSome}
use Rattle.devices.specs.Devices.{Seen, IsWholeRead}
use Rattle.base_text.specs.declared.limits.TheConstants.{MOST_TEXT}
use Rattle.editions.specs.Folders.{SeenFolder, edition_bytes}
use Rattle.editions.specs.Chains.{IsClearedAgainst}
use Rattle.edition_checks.specs.declared.candidate.Candidate.{Candidate}
use Rattle.edition_checks.specs.declared.served.Served.{Served}
use Rattle.edition_checks.specs.Served.{served_view, candidate_view}
use Rattle.edition_checks.specs.Putting.{IsToPublish, LeavesSound, IsPut}
use Rattle.publishing.specs.declared.fault.PublishFault.{PublishFault}
use Rattle.publishing.specs.declared.status.PublishStatus.{PublishStatus}
use Rattle.publishing.specs.declared.status.PublishStatus.TheVariants.{Published}
use Rattle.publishing.specs.Serving.{ServesNow}

-- what an edition follows: the one that is served, from which the change is cleared; or nothing, if none is served, or if the
-- edition is for new callers alone
abbrev pub FollowsServed : Option Served → Candidate → Bool → Option ℕ → Type 0
FollowsServed None c new_callers follows = follows ≡ None
FollowsServed (Some s) c new_callers None = new_callers ≡ true
FollowsServed (Some s) c new_callers (Some k) = (k ≡ s.number) × IsClearedAgainst (served_view None s) (candidate_view None c)

-- what was judged before the edition of a base and a policy is written
pub record IsJudgedEdition (seen : SeenFolder) (base policy : List ℕ) (new_callers : Bool) (c : Candidate) (follows : Option ℕ) : Type 0 where
  pub checked : IsToPublish base policy c
  pub served : Option Served
  pub serves : IfSome seen.state (λ f. ServesNow f served)
  pub following : FollowsServed served c new_callers follows

-- the edition of these texts was judged, and then it was written and is current; before that a sound folder was left sound
pub record IsPublished (old new : SeenFolder) (base policy : List ℕ) (new_callers : Bool) (n : ℕ) : Type 0 where
  pub between : SeenFolder
  pub before : LeavesSound old between
  pub candidate : Candidate
  pub follows : Option ℕ
  pub judged : IsJudgedEdition between base policy new_callers candidate follows
  pub put : IsPut between new n (edition_bytes base candidate.cert_text.items policy follows)

-- the base is what the source gave
pub record IsPublishedBase (source_old source_new : Seen) (old new : SeenFolder) (policy : List ℕ) (new_callers : Bool) (n : ℕ) : Type 0 where
  pub base : List ℕ
  pub read : IsWholeRead (MOST_TEXT + 1) source_old source_new base
  pub edition : IsPublished old new base policy new_callers n

-- and the policy is the folder's
pub record IsPublishedFrom (source_old source_new : Seen) (old new : SeenFolder) (new_callers : Bool) (n : ℕ) : Type 0 where
  pub policy : List ℕ
  pub there : IfSome old.state (λ f. f.policy ≡ Some policy)
  pub base : IsPublishedBase source_old source_new old new policy new_callers n

-- an edition was published under some number
abbrev pub IfPublished : Result PublishStatus PublishFault → (ℕ → Type 0) → Type 0
IfPublished (Ok (Published n)) P = P n
IfPublished _ P = Unit {0}
