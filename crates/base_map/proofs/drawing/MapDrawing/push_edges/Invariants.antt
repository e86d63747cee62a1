use Rattle.std.proofs.Common.{◌≡◌, ◌++◌, drop}
use Rattle.std.specs.List.{flat_map}
use Rattle.base_map.specs.Edges.{frames_shown, edge_lines_of}
use Rattle.base_map.proofs.drawing.MapDrawing.push_edges.Given as goal

abbrev pub invariant-loop-frame : goal.invariant-loop-frame
invariant-loop-frame l =
    l.out.items ++ flat_map (edge_lines_of l.self) (frames_shown l.self (drop l.frame-index l.frames))
    ≡ l.fn.out.items ++ flat_map (edge_lines_of l.self) (frames_shown l.self l.frames)
