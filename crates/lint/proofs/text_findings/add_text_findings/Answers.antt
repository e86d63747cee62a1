use Rattle.std.proofs.Common.{arith}
use Rattle.lint.specs.Lint.{text_finding}
use Rattle.lint.proofs.Turns.{one_more}
use Rattle.lint.proofs.text_findings.add_text_findings.Goals as goal

pub loop-fault-preserved : goal.loop-fault-preserved
loop-fault-preserved c =
    let found = c.in_ok-text_finding.ensures in
    let so_far = c.loop-fault.invariant in
    record {
      table = λ ms knows. found.table ms knows (so_far.table ms knows);
      findings = λ ms knows.
          one_more c.args.faults.now c.loop-fault.fault-index c.fault-item.result (omega arith) c.fault-item.is (text_finding c.args.tables.now.text.now ms) _ _ _ _
          (found.finding ms knows (so_far.table ms knows)) c.in_ok-push.ensures.items (so_far.findings ms knows);
    }
