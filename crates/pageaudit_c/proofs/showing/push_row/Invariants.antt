use Rattle.std.proofs.Common.{◌≡◌, ◌++◌, drop, map}
use Rattle.pageaudit_c.specs.Shows.{cell_look}
use Rattle.pageaudit_c.proofs.showing.push_row.Given as goal

abbrev pub invariant-loop-look : goal.invariant-loop-look
invariant-loop-look l = l.out.items ++ map cell_look (drop l.look-index l.row) ≡ l.fn.out.items ++ map cell_look l.row
