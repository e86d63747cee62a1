use Rattle.screens.proofs.Shows.{columns_show, no_space_ends}
use Rattle.screens.proofs.laws.lines_show.Goals as goal

pub returns-clause-columns : goal.returns-clause-columns
returns-clause-columns c = columns_show

pub returns-clause-ends : goal.returns-clause-ends
returns-clause-ends c = no_space_ends
