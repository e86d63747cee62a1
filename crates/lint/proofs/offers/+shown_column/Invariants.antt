use Rattle.std.proofs.Common.{length}
use Rattle.lint.proofs.offers.+shown_column.Given as goal

-- the cells that are left
abbrev pub decreases-shown_column : goal.decreases-shown_column
decreases-shown_column l = length l.cells.now
