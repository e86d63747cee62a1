use Rattle.std.proofs.Common.{length}
use Rattle.lint.proofs.offers.+menu_after.Given as goal

-- the cells that are left
abbrev pub decreases-menu_after : goal.decreases-menu_after
decreases-menu_after l = length l.cells.now
