use Rattle.std.proofs.Common.{◌≡◌, ◌++◌}
use Rattle.lint.specs.Looks.{rows_up_to}
use Rattle.lint.proofs.looks.add_rows.Given as goal

abbrev pub invariant-loop-above : goal.invariant-loop-above
invariant-loop-above l = l.looks.items ≡ l.fn.looks.items ++ rows_up_to l.frame l.cells l.above
