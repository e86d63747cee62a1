-- The editions that are served.
use Rattle.std.specs.Prelude.{◌≡◌, ℕ, List, Some}
use Rattle.checker.specs.declared.verdict.Cause.{Cause}
use Rattle.checker.specs.declared.verdict.Verdict.TheVariants as verdicts
use Rattle.checker.specs.Verdict.{verdict}
use Rattle.editions.specs.Folders.{FolderState, SeenFolder}
use Rattle.editions.specs.NumberLines.{current_in}
use Rattle.edition_checks.specs.declared.served.Served.{Served}
use Rattle.edition_checks.specs.Served.{IfHeld, IsReadEdition, IsServed}
use Rattle.edition_checks.specs.NextEditions.{IsFit, IsNextEdition}
use Rattle.one_call.specs.Parts.{Parts, First, Then, served_now}

-- `current` names this number
pub record NamesCurrent (number : ℕ) (f : FolderState) : Type 0 where
  pub text : List ℕ
  pub current : f.current ≡ Some text
  pub named : current_in text ≡ Some number

-- `current` names the edition, and its texts are there
pub record IsCurrentIn (f : FolderState) (s : Served) : Type 0 where
  pub named : NamesCurrent s.number f
  pub served : IsServed f s

-- an edition that was read; if nobody else changes the folder, it is the current one
pub record IsCurrentRead (folder : SeenFolder) (s : Served) : Type 0 where
  pub read : IsReadEdition s
  pub current : IfHeld folder (λ f. IsCurrentIn f s)

-- and the check cleared it by its own policy
pub record IsToServe (folder : SeenFolder) (s : Served) : Type 0 where
  pub is : IsCurrentRead folder s
  pub fit : IsFit s

-- or refused it for a cause
pub record IsToRefuse (folder : SeenFolder) (number : ℕ) (cause : Cause) : Type 0 where
  pub served : Served
  pub is : IsCurrentRead folder served
  pub is_number : served.number ≡ number
  pub refused : verdict served.base served.policy served.cert ≡ verdicts.Refused cause

-- others may change the folder, or it doesn't show what is in it
abbrev pub MayChange : SeenFolder → Type 0
MayChange folder = IfHeld folder (λ f. ⊥)

-- the editions of a call of a caller of these groups: the first is the one that was current, and for these groups; each other follows the
-- one before it, and it and the change to it were cleared. If nobody else changes the folder there is no other
abbrev pub AreServed : List ℕ → SeenFolder → Parts → Type 0
AreServed groups folder (First s bytes) = (s.policy.groups ≡ groups) × IsToServe folder s
AreServed groups folder (Then before s bytes) = AreServed groups folder before × IsNextEdition folder (served_now before) s × MayChange folder
