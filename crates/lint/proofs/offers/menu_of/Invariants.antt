use Rattle.std.proofs.Common.{◌≡◌, drop}
use Rattle.lint.specs.Offers.{menu_from, menu_of}
use Rattle.lint.proofs.offers.menu_of.Given as goal

abbrev pub invariant-loop-row : goal.invariant-loop-row
invariant-loop-row l = menu_from l.menu.items l.row (drop l.row l.rows) ≡ menu_of l.rows
