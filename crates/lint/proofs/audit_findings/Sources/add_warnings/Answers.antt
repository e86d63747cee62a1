use Rattle.std.proofs.Common.{arith}
use Rattle.lint.specs.Lint.{warning}
use Rattle.lint.proofs.Turns.{one_more}
use Rattle.lint.proofs.audit_findings.Sources.add_warnings.Goals as goal

pub loop-id-preserved : goal.loop-id-preserved
loop-id-preserved c = λ ms tables known.
    one_more c.args.ids.now c.loop-id.id-index c.id-item.result (omega arith) c.id-item.is (warning c.args.self.now.text.now.text.now ms tables) _ _ _ _
    (c.in_ok-warning.ensures ms tables known) c.in_ok-push.ensures.items (c.loop-id.invariant ms tables known)
