use Rattle.checker.proofs.RowBodies.{rows_clean}
use Rattle.checker.proofs.laws.rows_are_clean.Goals as goal

pub returns : goal.returns
returns c lead rows few are = rows_clean lead rows few are
