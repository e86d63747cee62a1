use Rattle.std.proofs.Common.{◌≡◌, ◌++◌, drop}
use Rattle.base_map.specs.Edges.{lines_to}
use Rattle.base_map.proofs.drawing.MapDrawing.push_edges_to.Given as goal

abbrev pub invariant-loop-to : goal.invariant-loop-to
invariant-loop-to l = l.out.items ++ lines_to l.self l.frame (drop l.to-index l.targets) ≡ l.fn.out.items ++ lines_to l.self l.frame l.targets
