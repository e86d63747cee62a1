use Rattle.screens.proofs.screen.+is_covered.Given as goal

abbrev pub decreases-is_covered : goal.decreases-is_covered
decreases-is_covered c = c.row
