use Rattle.abstract_paint.proofs.Codes.{codes_go_on}
use Rattle.abstract_paint.proofs.laws.codes_go_on.Goals as goal

pub returns : goal.returns
returns c = codes_go_on
