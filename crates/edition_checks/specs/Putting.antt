-- What a publish leaves of a folder.
use Rattle.std.specs.Prelude.{◌≡◌, ◌≤◌, ℕ, List, Option, Some, None, Ok, IfSome, option_map, is_some}
use Rattle.base_text.specs.Whole.{IsTextBase}
use Rattle.cert_text.specs.Grammar.{IsCertificateText}
use Rattle.policy_text.specs.Policies.{policy_in}
use Rattle.editions.specs.declared.limits.TheConstants.{MOST_EDITION}
use Rattle.editions.specs.Folders.{FolderState, SeenFolder, EditionBytes, IsNewNumber}
use Rattle.editions.specs.Chains.{IsClearedEdition, IsClearedAgainst}
use Rattle.editions.specs.Moments.{IsSoundFolder, KeepsEditions, IsFollowing, after_steps, publish_steps}
use Rattle.edition_checks.specs.declared.candidate.Candidate.{Candidate}
use Rattle.edition_checks.specs.declared.served.Served.{Served}
use Rattle.edition_checks.specs.Served.{served_view, candidate_view, IsServed}

-- the texts that are published, and what was checked of them
pub record IsToPublish (base_text policy_text : List ℕ) (c : Candidate) : Type 0 where
  pub of_base : IsTextBase base_text c.base
  pub of_cert : IsCertificateText c.cert_text.items c.cert
  pub of_policy : policy_in policy_text ≡ Ok c.policy
  pub cleared : IsClearedEdition (candidate_view None c)

-- under whichever new number, the edition follows what it says it does
pub record CanFollow (f : FolderState) (c : Candidate) (follows : Option ℕ) : Type 0 where
  pub named : IfSome follows (λ k. k ≤ MOST_EDITION)
  pub following : (n : ℕ) → IsNewNumber f.editions n → IsFollowing f.editions n (candidate_view follows c) follows

-- the same of a folder that shows what is in it, if it is sound
abbrev pub CanFollowIn : SeenFolder → Candidate → Option ℕ → Type 0
CanFollowIn seen c follows = IfSome seen.state (λ f. IsSoundFolder f → CanFollow f c follows)

-- a sound folder is left sound, and no edition has changed; the lock is held as before, and what is in the folder is shown as before
pub record LeavesSound (old new : SeenFolder) : Type 0 where
  pub held : new.held ≡ old.held
  pub shown : is_some new.state ≡ is_some old.state
  pub sound : IfSome old.state (λ f. IsSoundFolder f → IfSome new.state (λ now. IsSoundFolder now × KeepsEditions f now))

-- the edition was written under this number, and is current now
pub record IsPut (old new : SeenFolder) (n : ℕ) (e : EditionBytes) : Type 0 where
  pub state : new.state ≡ option_map (after_steps (publish_steps n e)) old.state
  pub number : IfSome old.state (λ f. IsNewNumber f.editions n)

-- in a sound folder an edition that is served may be followed by one that was cleared against it
abbrev pub ServedMayBeFollowed : Type 0
ServedMayBeFollowed =
    (f : FolderState) (s : Served) (c : Candidate) → IsSoundFolder f → IsServed f s → s.number ≤ MOST_EDITION
    → IsClearedAgainst (served_view None s) (candidate_view None c) → CanFollow f c (Some s.number)
