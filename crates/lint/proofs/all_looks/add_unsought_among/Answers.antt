use Rattle.std.proofs.Common.{arith}
use Rattle.lint.specs.AllLooks.{unsought_look}
use Rattle.lint.proofs.Turns.{some_more}
use Rattle.lint.proofs.all_looks.add_unsought_among.Goals as goal

pub loop-frame-preserved : goal.loop-frame-preserved
loop-frame-preserved c = λ ids known.
    some_more c.args.frames.now c.loop-frame.frame-index c.frame-item.result (omega arith) c.frame-item.is (unsought_look c.args.groups.now ids) _ _ _
    (c.in_ok-add_unsought.ensures ids known) (c.loop-frame.invariant ids known)
