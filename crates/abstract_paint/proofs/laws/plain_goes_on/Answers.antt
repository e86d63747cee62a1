use Rattle.abstract_paint.proofs.PlainRuns.{plain_goes_on}
use Rattle.abstract_paint.proofs.laws.plain_goes_on.Goals as goal

pub returns : goal.returns
returns c = plain_goes_on
