use Rattle.std.proofs.Common.{subst, sym}
use Rattle.std.specs.Prelude.{MatchOption}
use Rattle.frame_records.specs.Bases.{BaseView}
use Rattle.finder.specs.Finds.{EntryIsFound}
use Rattle.fault_scripts.specs.Faults.{AreFaultsAlong}
use Rattle.fault_scripts.specs.Outcomes.{AreAllFaults}
use Rattle.fault_scripts.proofs.Audited.{reported_along}
use Rattle.fault_scripts.proofs.FaultsDue.{from_along}
use Rattle.fault_scripts.proofs.auditing.faults_surveyed.Goals as goal

pub returns-in_ok-judged-in-None : goal.returns-in_ok-judged-in-None
returns-in_ok-judged-in-None c =
    let base = c.args.survey.now.base in
    let policy = c.args.policy.now in
    let seen = subst (λ o. MatchOption o (EntryIsFound policy.groups c.base.result.now) (AreAllFaults c.base.result.now policy)) c.in-None.is c.in_ok-faults.ensures.fault in
    let entry = subst (λ (b : BaseView). EntryIsFound policy.groups b) c.base.ensures seen in
    from_along base policy entry.0 c.of.result entry.1 (subst (AreFaultsAlong base policy) (sym c.of.ensures) (reported_along base policy c.in_ok-judged-in-None.field-0 c.in_ok-judged-in-None.ensures))
