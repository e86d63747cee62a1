use Rattle.std.proofs.Common.{◌∙◌, length, get_or, ap, arith}
use Rattle.lint.specs.Lint.{fault_finding}
use Rattle.lint.proofs.Turns.{one_more}
use Rattle.lint.proofs.audit_findings.Sources.add_faults.Goals as goal

pub loop-fault-preserved : goal.loop-fault-preserved
loop-fault-preserved c =
    let self = c.args.self.now in
    let faults = c.as_slice-fault-items.ensures in
    let i = c.loop-fault.fault-index in
    let found = c.in_ok-finding.ensures in
    let so_far = c.loop-fault.invariant in
    record {
      table = λ ms knows. found.table ms knows (so_far.table ms knows);
      findings = λ ms tables known are knows.
          one_more c.args.audit.now.faults i c.fault-item.result (omega (arith, ap length faults)) (c.fault-item.is ∙ ap (λ fs. get_or fs i c.fault-item.result) faults)
          (fault_finding self.text.now.text.now ms tables self.base.now self.policy.now known) _ _ _ _
          (found.finding ms tables known are knows (so_far.table ms are.places)) c.in_ok-push.ensures.items (so_far.findings ms tables known are knows);
    }
