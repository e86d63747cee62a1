use Rattle.std.proofs.Common.{◌≡◌, ◌++◌, drop}
use Rattle.screens.specs.Ansi.{unset, cells_bytes}
use Rattle.screens.proofs.ansi.push_row.Given as goal

abbrev pub invariant-loop-look : goal.invariant-loop-look
invariant-loop-look l = l.out.items ++ cells_bytes l.pen (drop l.look-index l.row) ≡ l.fn.out.items ++ cells_bytes unset l.row
