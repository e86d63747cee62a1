-- The list of faults has exactly those that are due, each once and in order.
use Rattle.std.proofs.Common.{◌≡◌, ℕ, List, get_or, sym, ap, subst, arith}
use Rattle.std.proofs.lemmas.List.Elements.{Contains-get_or}
use Rattle.frame_records.specs.declared.base.Sought.TheVariants as sought
use Rattle.frame_records.specs.declared.base.Sought.{Sought}
use Rattle.frame_records.specs.Bases.{BaseView}
use Rattle.frame_records.specs.Seek.{seek_entry}
use Rattle.checker.specs.declared.policy.Policy.{Policy}
use Rattle.base_faults.specs.declared.fault.Fault.{Fault}
use Rattle.fault_scripts.specs.Faults.{IsOfPlace, turn_at, AreFaultsAlong, AreFaultsBy, AreFaults}
use Rattle.fault_scripts.specs.FaultLaws.{FaultsAreDue}
use Rattle.fault_scripts.proofs.Reported.{own_place}

-- if the entry frame is found, they are those of the discovered frames, and the other way round
pub along : (base : BaseView) (policy : Policy) (price : ℕ) (faults : List Fault)
    → seek_entry policy.groups base ≡ sought.Found price → AreFaults base policy faults
    → AreFaultsAlong base policy faults
along base policy price faults e are = subst (λ (s : Sought). AreFaultsBy s base policy faults) e are

pub from_along : (base : BaseView) (policy : Policy) (price : ℕ) (faults : List Fault)
    → seek_entry policy.groups base ≡ sought.Found price → AreFaultsAlong base policy faults
    → AreFaults base policy faults
from_along base policy price faults e are = subst (λ (s : Sought). AreFaultsBy s base policy faults) (sym e) are

pub faults_due : FaultsAreDue
faults_due base policy price faults e are =
    let a = along base policy price faults e are in
    record {
      along = a;
      once = λ i j d lt few same.
          let x = get_or faults i d in
          let due = (a.due.just x).0 (Contains-get_or faults i d (omega (arith, lt, few))) in
          let p = own_place base policy a.found a.finding x due in
          let q = subst (λ (f : Fault). IsOfPlace a.found due.index f) same p in
          let turn = ap (turn_at due.index) same in
          absurd (omega (arith, a.due.in_order i j d lt few due.index due.index p q, turn));
    }
