-- Facts that hold between the turns of loops, and what functions that aren't exported say. No promise rests on them.
use Rattle.std.specs.Prelude.{List, [], map}
use Rattle.indexmap.specs.IndexSet.{insert_all}
use Rattle.page_ids.specs.Ids.{Id, id_eq}
use Rattle.finder.specs.declared.found.Discovered.{Discovered}

-- The frames that are reached.

-- the ids of discovered frames
abbrev pub discovered_ids : List Discovered → List Id
discovered_ids found = insert_all id_eq [] (map (λ d. d.id) found)
