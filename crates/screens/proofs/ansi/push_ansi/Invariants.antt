use Rattle.std.proofs.Common.{◌≡◌, ◌++◌, drop}
use Rattle.screens.specs.Ansi.{ansi}
use Rattle.screens.proofs.ansi.push_ansi.Given as goal

abbrev pub invariant-loop-row : goal.invariant-loop-row
invariant-loop-row l = l.out.items ++ ansi (drop l.row-index l.row-items) ≡ l.fn.out.items ++ ansi l.row-items
