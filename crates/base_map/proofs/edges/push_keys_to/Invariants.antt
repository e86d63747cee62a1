use Rattle.std.proofs.Common.{◌≡◌, ◌++◌, true, map}
use Rattle.std.specs.Prelude.{filter}
use Rattle.page_ids.specs.Ways.{way_key}
use Rattle.base_map.specs.Edges.{keys_to, seeks, spaced_keys}
use Rattle.base_map.proofs.WaySteps.{ways_from}
use Rattle.base_map.proofs.edges.push_keys_to.Given as goal

abbrev pub invariant-loop-place : goal.invariant-loop-place
invariant-loop-place l =
    l.out.items ++ spaced_keys l.is_first (map way_key (filter (seeks l.frame l.to) (ways_from l.place))) ≡ l.fn.out.items ++ spaced_keys true (keys_to l.frame l.to)
