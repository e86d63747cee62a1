use Rattle.std.proofs.Common.{◌≡◌, drop}
use Rattle.std.specs.List.{flat_map}
use Rattle.indexmap.specs.IndexSet.{insert_all}
use Rattle.page_ids.specs.Ids.{id_eq}
use Rattle.base_map.specs.Edges.{frames_shown}
use Rattle.base_map.specs.Edges as spec
use Rattle.base_map.proofs.drawing.MapDrawing.with_lost.Given as goal

abbrev pub invariant-loop-frame : goal.invariant-loop-frame
invariant-loop-frame l =
    insert_all id_eq l.lost.keys (flat_map (spec.lost_of l.self.base) (frames_shown l.self (drop l.frame-index l.frames)))
    ≡ insert_all id_eq l.fn.first.keys (flat_map (spec.lost_of l.self.base) (frames_shown l.self l.frames))
