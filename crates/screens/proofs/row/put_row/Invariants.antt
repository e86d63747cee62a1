use Rattle.std.proofs.Common.{◌≡◌, ◌++◌, take, drop, length}
use Rattle.screens.specs.Table.{start}
use Rattle.screens.specs.Looks.{row_looks}
use Rattle.screens.proofs.row.put_row.Given as goal

abbrev pub invariant-loop-i : goal.invariant-loop-i
invariant-loop-i l = record {
  rest : take l.i l.looks ++ row_looks l.state (drop l.i l.codes) ≡ row_looks (start l.fn.can_stretch) l.codes;
  size : length l.looks ≡ length l.codes;
}
