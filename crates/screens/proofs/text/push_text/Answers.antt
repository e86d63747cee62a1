use Rattle.std.proofs.Common.{arith}
use Rattle.screens.proofs.Lines.{text_more}
use Rattle.screens.proofs.text.push_text.Goals as goal

pub loop-row-preserved : goal.loop-row-preserved
loop-row-preserved c = text_more _ c.rows-row-items.result.now c.loop-row.row-index _ _ _ _ (omega arith) (c.in_ok-push_line.ensures {u = tt}) c.loop-row.invariant
