use Rattle.std.proofs.Common.{◌≡◌, [], drop}
use Rattle.lint.specs.Offers.{shown_from}
use Rattle.lint.proofs.offers.shown.Given as goal

abbrev pub invariant-loop-row : goal.invariant-loop-row
invariant-loop-row l = shown_from l.frame l.cells l.looks.items l.row (drop l.row l.rows) ≡ shown_from l.frame l.cells [] 0 l.rows
