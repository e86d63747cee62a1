-- What a publish follows, and what it leaves.
use Rattle.std.proofs.Common.{◌≡◌, ℕ, Bool, false, List, Option, Some, None, refl, sym, ap, ◌∙◌, subst}
use Rattle.std.specs.Prelude.{Result, Ok, Err, IfOk, IfSome, ◌+◌}
use Rattle.devices.specs.Devices.{Seen, IsWholeRead}
use Rattle.base_text.specs.declared.limits.TheConstants.{MOST_TEXT}
use Rattle.checker.specs.declared.policy.Policy.{Policy}
use Rattle.checker.specs.declared.verdict.Verdict.TheVariants as verdicts
use Rattle.checker.specs.Verdict.{verdict}
use Rattle.policy_text.specs.Policies.{policy_in}
use Rattle.editions.specs.Folders.{FolderState, SeenFolder, edition_bytes}
use Rattle.editions.specs.Moments.{IsSoundFolder}
use Rattle.edition_checks.specs.declared.candidate.Candidate.{Candidate}
use Rattle.edition_checks.specs.declared.served.Served.{Served}
use Rattle.edition_checks.specs.Candidates.{IsCandidate}
use Rattle.edition_checks.specs.Putting.{IsToPublish, CanFollow, LeavesSound, IsPut}
use Rattle.edition_checks.proofs.FollowLaws.{served_followed}
use Rattle.edition_checks.proofs.PutLaws.{leaves_same, leaves_then}
use Rattle.publishing.specs.declared.fault.PublishFault.{PublishFault}
use Rattle.publishing.specs.declared.status.PublishStatus.{PublishStatus}
use Rattle.publishing.specs.declared.status.PublishStatus.TheVariants.{Published, Passed, AlreadyServed, Faulty, Refused}
use Rattle.publishing.specs.Serving.{ServesNow}
use Rattle.publishing.specs.Publishing.{FollowsServed, IsPublished, IsPublishedFrom, IfPublished}

-- an edition may follow what was judged
pub can_follow : (o : Option FolderState) (served : Option Served) (c : Candidate) (new_callers : Bool) (follows : Option ℕ)
    → IfSome o (λ f. ServesNow f served) → FollowsServed served c new_callers follows → IfSome o (λ f. IsSoundFolder f → CanFollow f c follows)
can_follow None served c new_callers follows serves is = tt
can_follow (Some f) None c new_callers None serves is = λ sound. record { named = tt; following = λ n new. tt }
can_follow (Some f) None c new_callers (Some k) serves is = absurd cc
can_follow (Some f) (Some s) c new_callers None serves is = λ sound. record { named = tt; following = λ n new. tt }
can_follow (Some f) (Some s) c new_callers (Some k) serves is = λ sound.
    subst (λ (m : ℕ). CanFollow f c (Some m)) (sym is.0) (served_followed f s c sound serves.is serves.most is.1)

-- a candidate may be published with the text of its policy
pub to_publish : (base text : List ℕ) (policy : Policy) (c : Candidate) → policy_in text ≡ Ok policy → IsCandidate base policy c → IsToPublish base text c
to_publish base text policy c of is = record {
  of_base = is.of_base;
  of_cert = is.of_cert;
  of_policy = of ∙ ap Ok (sym is.by);
  cleared = subst (λ (p : Policy). verdict c.base p c.cert ≡ verdicts.Cleared) (sym is.by) is.cleared;
}

-- if one of what is published is, it is one of another
pub published_each : (r : Result PublishStatus PublishFault) (P Q : ℕ → Type 0) → ((n : ℕ) → P n → Q n) → IfPublished r P → IfPublished r Q
published_each (Ok (Published n)) P Q h is = h n is
published_each (Ok (Passed n)) P Q h is = tt
published_each (Ok (AlreadyServed n)) P Q h is = tt
published_each (Ok (Faulty counts)) P Q h is = tt
published_each (Ok Refused) P Q h is = tt
published_each (Err e) P Q h is = tt

pub published_both : (r : Result PublishStatus PublishFault) (P Q R : ℕ → Type 0) → ((n : ℕ) → P n → Q n → R n) → IfPublished r P → IfPublished r Q → IfPublished r R
published_both (Ok (Published n)) P Q R h p q = h n p q
published_both (Ok (Passed n)) P Q R h p q = tt
published_both (Ok (AlreadyServed n)) P Q R h p q = tt
published_both (Ok (Faulty counts)) P Q R h p q = tt
published_both (Ok Refused) P Q R h p q = tt
published_both (Err e) P Q R h p q = tt

-- what was put was published
pub published_now : (old new : SeenFolder) (base policy : List ℕ) (new_callers dry_run : Bool) (c : Candidate) (served : Option Served) (follows : Option ℕ) (r : Result PublishStatus PublishFault)
    → IsToPublish base policy c → (dry_run ≡ false → IfSome old.state (λ f. ServesNow f served)) → FollowsServed served c new_callers follows
    → IfPublished r (λ n. IsPut old new n (edition_bytes base c.cert_text.items policy follows)) → IfPublished r (λ n. dry_run ≡ false)
    → IfPublished r (IsPublished old new base policy new_callers)
published_now old new base policy new_callers dry_run c served follows r checked serves following put written =
    published_both r (λ n. IsPut old new n (edition_bytes base c.cert_text.items policy follows)) (λ n. dry_run ≡ false) (IsPublished old new base policy new_callers)
    (λ n is dry. record {
      between = old;
      before = leaves_same old old refl refl;
      candidate = c;
      follows = follows;
      judged = record { checked = checked; served = served; serves = serves dry; following = following };
      put = is;
    })
    put written

-- what is published after other calls
published_then : (a b c : SeenFolder) (base policy : List ℕ) (new_callers : Bool) (n : ℕ) → LeavesSound a b → IsPublished b c base policy new_callers n → IsPublished a c base policy new_callers n
published_then a b c base policy new_callers n before p = record {
  between = p.between;
  before = leaves_then a b p.between before p.before;
  candidate = p.candidate;
  follows = p.follows;
  judged = p.judged;
  put = p.put;
}

pub published_after : (a b c : SeenFolder) (base policy : List ℕ) (new_callers : Bool) (r : Result PublishStatus PublishFault) → LeavesSound a b → IfPublished r (IsPublished b c base policy new_callers) → IfPublished r (IsPublished a c base policy new_callers)
published_after a b c base policy new_callers r before is =
    published_each r (IsPublished b c base policy new_callers) (IsPublished a c base policy new_callers) (λ n. published_then a b c base policy new_callers n before) is

-- the texts are those of the source and of the folder
pub published_from : (source_old source_new : Seen) (a b c : SeenFolder) (base policy : List ℕ) (new_callers : Bool) (r : Result PublishStatus PublishFault)
    → LeavesSound a b → IfSome a.state (λ f. f.policy ≡ Some policy) → IsWholeRead (MOST_TEXT + 1) source_old source_new base
    → IfPublished r (IsPublished b c base policy new_callers) → IfPublished r (IsPublishedFrom source_old source_new a c new_callers)
published_from source_old source_new a b c base policy new_callers r before there read is =
    published_each r (IsPublished b c base policy new_callers) (IsPublishedFrom source_old source_new a c new_callers)
    (λ n p. record {
      policy = policy;
      there = there;
      base = record { base = base; read = read; edition = published_then a b c base policy new_callers n before p };
    })
    is

-- the status of what was printed
pub published_said : (r : Result PublishStatus PublishFault) (status : PublishStatus) (P : ℕ → Type 0) → IfOk r (λ s. s ≡ status) → IfPublished (Ok status) P → IfPublished r P
published_said (Ok s) status P same is = subst (λ (t : PublishStatus). IfPublished (Ok t) P) (sym same) is
published_said (Err e) status P same is = tt
