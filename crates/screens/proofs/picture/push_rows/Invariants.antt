use Rattle.std.proofs.Common.{◌≡◌, ◌++◌, drop}
use Rattle.screens.specs.Svg.{screen_path}
use Rattle.screens.proofs.picture.push_rows.Given as goal

abbrev pub invariant-loop-row : goal.invariant-loop-row
invariant-loop-row l = l.out.items ++ screen_path l.ink l.row (drop l.row l.cells-items) ≡ l.fn.out.items ++ screen_path l.ink 0 l.cells-items
