use Rattle.std.proofs.Common.{◌≡◌, ◌++◌, drop}
use Rattle.screens.specs.Svg.{markup, layer_pieces}
use Rattle.screens.proofs.svg.push_layer.Given as goal

abbrev pub invariant-loop-row : goal.invariant-loop-row
invariant-loop-row l = l.out.items ++ markup (layer_pieces l.layer l.row (drop l.row l.cells-items)) ≡ l.fn.out.items ++ markup (layer_pieces l.layer 0 l.cells-items)
