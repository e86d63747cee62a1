use Rattle.std.proofs.Common.{arith}
use Rattle.std.proofs.lemmas.Grind.{common_steps}
use Rattle.screen_forms.proofs.Walks.{mark_here, mark_later}
use Rattle.screen_forms.proofs.addresses.address_at.Goals as goal

pub returns-then-is_mark-clause-value : goal.returns-then-is_mark-clause-value
returns-then-is_mark-clause-value c =
    grind (arith, common_steps, mark_here c.loop-at.at c.args.text.now (omega arith) (grind (arith, common_steps)), c.loop-at.invariant)

pub loop-at-preserved : goal.loop-at-preserved
loop-at-preserved c =
    grind (arith, common_steps, mark_later c.loop-at.at c.args.text.now (omega arith) (grind (arith, common_steps)), c.loop-at.invariant)
