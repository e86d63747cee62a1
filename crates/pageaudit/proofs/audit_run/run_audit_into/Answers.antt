use Rattle.fault_scripts.specs.Outcomes.{IsOutcomeOf}
use Rattle.pageaudit.proofs.Runs.{split_run}
use Rattle.pageaudit.proofs.audit_run.run_audit_into.Goals as goal

-- the outcome of the audit is one that its contract allows
pub returns : goal.returns
returns g c =
    let is : IsOutcomeOf c.in_ok-base.base c.args.policy.now c.in-Ok.outcome = record { is = c.in-Ok.ensures.outcome; safety = c.in-Ok.ensures.safety; shown = c.in-Ok.ensures.shown } in
    split_run _ _ _ c.in_ok-base.base c.in_ok-base.ensures c.args.policy.now c.in-Ok.outcome is c.write_split.result c.write_split.ensures.written c.write_split.ensures.in_grammar
