use Rattle.std.proofs.Common.{◌≡◌, drop}
use Rattle.std.specs.Prelude.{map}
use Rattle.indexmap.specs.IndexSet.{insert_all}
use Rattle.page_ids.specs.Ids.{id_eq}
use Rattle.base_map.specs.Loops.{discovered_ids}
use Rattle.base_map.proofs.map.ids_of.Given as goal

abbrev pub invariant-loop-frame : goal.invariant-loop-frame
invariant-loop-frame l = insert_all id_eq l.ids.keys (map (λ d. d.id) (drop l.frame-index l.found)) ≡ discovered_ids l.found
