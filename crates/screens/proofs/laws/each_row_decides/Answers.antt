use Rattle.screens.proofs.Plain.{rows_decide}
use Rattle.screens.proofs.laws.each_row_decides.Goals as goal

pub returns : goal.returns
returns c = rows_decide
