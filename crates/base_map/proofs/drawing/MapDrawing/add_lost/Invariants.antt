use Rattle.std.proofs.Common.{◌≡◌, drop}
use Rattle.std.specs.Prelude.{filter}
use Rattle.indexmap.specs.IndexSet.{insert_all}
use Rattle.page_ids.specs.Ids.{id_eq}
use Rattle.base_map.specs.Edges.{is_lacked}
use Rattle.base_map.proofs.drawing.MapDrawing.add_lost.Given as goal

abbrev pub invariant-loop-to : goal.invariant-loop-to
invariant-loop-to l =
    insert_all id_eq l.lost.keys (filter (is_lacked l.self.base) (drop l.to-index l.targets))
    ≡ insert_all id_eq l.fn.lost.keys (filter (is_lacked l.self.base) l.targets)
