use Rattle.std.proofs.Common.{subst}
use Rattle.std.specs.Prelude.{IfOk}
use Rattle.frame_records.specs.Bases.{BaseView, IsBase}
use Rattle.fault_scripts.specs.Outcomes.{IsOutcome}
use Rattle.fault_scripts.proofs.Audited.{if_decided, if_shown}
use Rattle.fault_scripts.proofs.auditing.audit.Goals as goal

pub returns-clause-safety : goal.returns-clause-safety
returns-clause-safety c =
    let same = c.in_ok-survey.ensures.base in
    let policy = c.args.policy.now in
    if_decided c.args.base.now policy (subst IsBase same c.audit_surveyed.ensures.valid) c.audit_surveyed.result (subst (λ (b : BaseView). IfOk c.audit_surveyed.result (IsOutcome b policy)) same c.audit_surveyed.ensures.is)

pub returns-clause-shown : goal.returns-clause-shown
returns-clause-shown c =
    let same = c.in_ok-survey.ensures.base in
    let policy = c.args.policy.now in
    if_shown c.args.base.now policy (subst IsBase same c.audit_surveyed.ensures.valid) c.audit_surveyed.result (subst (λ (b : BaseView). IfOk c.audit_surveyed.result (IsOutcome b policy)) same c.audit_surveyed.ensures.is)
