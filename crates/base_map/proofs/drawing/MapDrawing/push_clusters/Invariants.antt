use Rattle.std.proofs.Common.{◌≡◌, ◌++◌, None, drop}
use Rattle.base_map.specs.Edges.{frames_shown}
use Rattle.base_map.specs.Nodes.{cluster_lines}
use Rattle.base_map.proofs.drawing.MapDrawing.push_clusters.Given as goal

abbrev pub invariant-loop-frame : goal.invariant-loop-frame
invariant-loop-frame l =
    l.out.items ++ cluster_lines l.self l.page (frames_shown l.self (drop l.frame-index l.frames))
    ≡ l.fn.out.items ++ cluster_lines l.self None (frames_shown l.self l.frames)
