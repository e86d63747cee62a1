-- There is no fault if and only if the base is safe within the policy.
use Rattle.std.proofs.Common.{◌≡◌, List, [], ◌∷◌, refl, subst, arith}
use Rattle.frame_records.specs.declared.base.Sought.{Sought}
use Rattle.frame_records.specs.declared.base.Sought.TheVariants as sought
use Rattle.frame_records.specs.Bases.{BaseView, AreApart}
use Rattle.frame_records.specs.Seek.{seek_entry}
use Rattle.checker.specs.declared.policy.Policy.{Policy}
use Rattle.checker.specs.Safe.{Safe}
use Rattle.checker.proofs.Steps.{safe}
use Rattle.finder.specs.Finds.{EntryIsFound}
use Rattle.base_faults.specs.declared.fault.Fault.{Fault}
use Rattle.fault_scripts.specs.Faults.{IsDue, AreFaultsAlong, AreFaultsBy, AreFaults}
use Rattle.fault_scripts.specs.FaultLaws.{NoneIsSafe}
use Rattle.fault_scripts.proofs.GoodRows.{certificate, good}
use Rattle.fault_scripts.proofs.Lists.{none_in}
use Rattle.fault_scripts.proofs.Rows.{gathered}
use Rattle.fault_scripts.proofs.Shown.{faults_shown}
use Rattle.fault_scripts.proofs.Sound.{sound}
use Rattle.fault_scripts.proofs.Unsafe.{shown_is_unsafe}

-- an empty list leaves no fault that is due
pub none_due : (base : BaseView) (policy : Policy) (a : AreFaultsAlong base policy []) → (fault : Fault)
    → IsDue base policy a.found fault → ⊥
none_due base policy a fault due = none_in fault ((a.due.just fault).1 due)

-- the certificate of all rows is good within the policy itself
along_safe : (base : BaseView) (policy : Policy) → AreApart base → EntryIsFound policy.groups base
    → AreFaultsAlong base policy [] → Safe policy.groups base policy.ceiling policy.keyings
along_safe base policy apart entry a =
    let sounds = sound base policy a.found a.finding (none_due base policy a) in
    let rows = gathered base policy a.found sounds in
    let g = good base policy a.found a.finding sounds rows (λ row. (λ h. h, λ h. h)) policy.ceiling policy.keyings entry (omega arith) (omega arith) (λ row r. (r.sound.price, r.sound.near)) in
    safe base policy (certificate base policy.ceiling policy.keyings policy.groups rows) apart g

-- an entry frame that isn't found is a fault
none_then : (base : BaseView) (policy : Policy) → AreApart base → AreFaults base policy []
    → Safe policy.groups base policy.ceiling policy.keyings
none_then base policy apart are = by (seek_entry policy.groups base) refl are where
  by : (s : Sought) → seek_entry policy.groups base ≡ s → AreFaultsBy s base policy []
      → Safe policy.groups base policy.ceiling policy.keyings
  by (sought.Found price) e a = along_safe base policy apart (price, e) a
  by sought.Closed e is = absurd cc
  by sought.Missing e is = absurd cc

-- a fault is shown, and then the base isn't safe
safe_then : (base : BaseView) (policy : Policy) (faults : List Fault) → AreFaults base policy faults
    → Safe policy.groups base policy.ceiling policy.keyings → faults ≡ []
safe_then base policy [] are s = refl
safe_then base policy (fault ∷ faults) are s = absurd (shown_is_unsafe base policy fault (faults_shown base policy (fault ∷ faults) fault are (0, omega arith, refl)) s)

pub none_safe : NoneIsSafe
none_safe base policy faults apart are = (
  (λ none. none_then base policy apart (subst (AreFaults base policy) none are)),
  (λ s. safe_then base policy faults are s),
)
