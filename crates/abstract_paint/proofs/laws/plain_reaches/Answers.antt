use Rattle.abstract_paint.proofs.PlainRuns.{plain_reaches}
use Rattle.abstract_paint.proofs.laws.plain_reaches.Goals as goal

pub returns : goal.returns
returns c = plain_reaches
