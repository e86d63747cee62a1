-- What an audit's answer says.
use Rattle.std.proofs.Common.{Result, Ok, Err, IfOk}
use Rattle.frame_records.specs.Bases.{BaseView}
use Rattle.checker.specs.declared.policy.Policy.{Policy}
use Rattle.fault_scripts.specs.declared.outcome.Outcome.{Outcome}
use Rattle.fault_scripts.specs.declared.outcome.Outcome.TheVariants.{Certified, Faulty}
use Rattle.fault_scripts.specs.Outcomes.{IsOutcome, DecidesSafety, AreShown}
use Rattle.promises.specs.Audits.{IsAuditAnswer}
use Rattle.promises.proofs.Kept.{kept_from_entry}

pub answered : (base : BaseView) (policy : Policy) (o : Outcome) → IsOutcome base policy o → DecidesSafety base policy o → AreShown base policy o → IsAuditAnswer base policy o
answered base policy (Certified cert) is safe shown = (kept_from_entry _ base _ _ safe, is.1.cleared)
answered base policy (Faulty faults) is unsafe shown = (unsafe, is.1, shown)

pub each : {E : Type 0} (base : BaseView) (policy : Policy) (r : Result Outcome E) → IfOk r (IsOutcome base policy) → IfOk r (DecidesSafety base policy) → IfOk r (AreShown base policy) → IfOk r (IsAuditAnswer base policy)
each base policy (Ok o) is safe shown = answered base policy o is safe shown
each base policy (Err e) is safe shown = tt
