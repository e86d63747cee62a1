use Rattle.std.proofs.Common.{◌≡◌}
use Rattle.std.specs.List.{filter_map}
use Rattle.indexmap.specs.IndexSet.{insert_all}
use Rattle.page_ids.specs.Ids.{id_eq}
use Rattle.frame_records.specs.Ways.{sought}
use Rattle.base_map.specs.Edges.{targets_of}
use Rattle.base_map.proofs.WaySteps.{ways_from}
use Rattle.base_map.proofs.targets.targets_of.Given as goal

abbrev pub invariant-loop-place : goal.invariant-loop-place
invariant-loop-place l = insert_all id_eq l.targets.keys (filter_map (sought l.frame) (ways_from l.place)) ≡ targets_of l.frame
