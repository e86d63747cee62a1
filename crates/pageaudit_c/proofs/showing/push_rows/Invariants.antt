use Rattle.std.proofs.Common.{◌≡◌, ◌++◌, drop, map}
use Rattle.std.specs.List.{flat_map}
use Rattle.pageaudit_c.specs.Shows.{cell_look}
use Rattle.pageaudit_c.proofs.showing.push_rows.Given as goal

abbrev pub invariant-loop-row : goal.invariant-loop-row
invariant-loop-row l = l.out.items ++ flat_map (map cell_look) (drop l.row-index l.rows) ≡ l.fn.out.items ++ flat_map (map cell_look) l.rows
