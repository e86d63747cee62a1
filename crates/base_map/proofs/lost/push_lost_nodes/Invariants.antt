use Rattle.std.proofs.Common.{◌≡◌, ◌++◌, drop}
use Rattle.std.specs.List.{flat_map}
use Rattle.base_map.specs.Edges.{lost_line}
use Rattle.base_map.proofs.lost.push_lost_nodes.Given as goal

abbrev pub invariant-loop-id : goal.invariant-loop-id
invariant-loop-id l = l.out.items ++ flat_map (lost_line l.base) (drop l.id-index l.ids) ≡ l.fn.out.items ++ flat_map (lost_line l.base) l.ids
