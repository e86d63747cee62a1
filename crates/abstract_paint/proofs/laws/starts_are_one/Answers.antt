use Rattle.abstract_paint.proofs.Least.{starts_are_one}
use Rattle.abstract_paint.proofs.laws.starts_are_one.Goals as goal

pub returns : goal.returns
returns c = starts_are_one
