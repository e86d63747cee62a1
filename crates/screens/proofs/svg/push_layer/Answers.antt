use Rattle.std.proofs.Common.{arith}
use Rattle.screens.proofs.Runs.{layer_more, layer_end}
use Rattle.screens.proofs.svg.push_layer.Goals as goal

pub loop-row-preserved : goal.loop-row-preserved
loop-row-preserved c = layer_more _ c.rows-cells-items.result.now c.loop-row.row _ _ _ _ (omega arith) (c.in_ok-push_row.ensures {u = tt}) c.loop-row.invariant

pub returns : goal.returns
returns c = layer_end _ c.rows-cells-items.result.now _ c.loop-row.row _ _ (omega arith) c.rows-cells-items.ensures.value c.loop-row.invariant
