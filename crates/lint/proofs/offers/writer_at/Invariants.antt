use Rattle.std.proofs.Common.{◌≡◌, drop}
use Rattle.lint.specs.Offers.{writer_from, writer_at}
use Rattle.lint.proofs.offers.writer_at.Given as goal

abbrev pub invariant-loop-index : goal.invariant-loop-index
invariant-loop-index l = writer_from l.row l.column l.caret l.last l.index (drop l.index l.body) ≡ writer_at l.body l.row l.column
