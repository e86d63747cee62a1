use Rattle.std.proofs.Common.{◌≡◌, drop}
use Rattle.lint.specs.Sights.{digits_from, digits_before_gaps}
use Rattle.lint.proofs.sights.digits_before_gaps.Given as goal

abbrev pub invariant-loop-byte : goal.invariant-loop-byte
invariant-loop-byte l = digits_from l.frame l.cells l.caret l.digits (drop l.byte-index l.frame.body) ≡ digits_before_gaps l.frame l.cells
