use Rattle.std.proofs.Common.{List, [], ◌≢◌, sym, subst}
use Rattle.frame_records.specs.Bases.{BaseView}
use Rattle.base_faults.specs.declared.fault.Fault.{Fault}
use Rattle.fault_scripts.specs.Faults.{AreFaultsAlong}
use Rattle.fault_scripts.specs.Loops.{IsSortedTable}
use Rattle.fault_scripts.proofs.Audited.{none_reported, some_reported, reported_along, in_order_table, certified_by}
use Rattle.fault_scripts.proofs.FaultsDue.{from_along}
use Rattle.fault_scripts.proofs.auditing.outcome_found.Goals as goal

pub certificate_of-requires : goal.certificate_of-requires
certificate_of-requires c =
    in_order_table c.args.survey.now.base c.args.policy.now c.in_ok-judge.judge c.in_ok-judge.ensures c.requires.found (none_reported c.in_ok-judge.judge.reporter.faults.items c.as_slice.result.now c.is_empty.result c.as_slice.ensures.value c.is_empty.ensures c.if-is_empty.true)

pub returns-then-is_empty : goal.returns-then-is_empty
returns-then-is_empty c =
    certified_by c.args.survey.now.base c.args.policy.now c.in_ok-judge.judge c.in_ok-judge.ensures c.requires.found (none_reported c.in_ok-judge.judge.reporter.faults.items c.as_slice.result.now c.is_empty.result c.as_slice.ensures.value c.is_empty.ensures c.if-is_empty.true) c.certificate_of.result (subst (λ (b : BaseView). IsSortedTable b c.args.policy.now.groups c.in_ok-judge.judge.table c.certificate_of.result) c.base.ensures c.certificate_of.ensures)

pub returns-else-is_empty : goal.returns-else-is_empty
returns-else-is_empty c =
    let base = c.args.survey.now.base in
    let policy = c.args.policy.now in
    let same = sym c.of.ensures in
    let along = subst (AreFaultsAlong base policy) same (reported_along base policy c.in_ok-judge.judge c.in_ok-judge.ensures) in
    let some = some_reported c.in_ok-judge.judge.reporter.faults.items c.as_slice.result.now c.is_empty.result c.as_slice.ensures.value c.is_empty.ensures c.if-is_empty.false in
    (from_along base policy c.requires.found.0 c.of.result c.requires.found.1 along, subst (λ (f : List Fault). f ≢ []) same some)
