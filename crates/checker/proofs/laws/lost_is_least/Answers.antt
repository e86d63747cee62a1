use Rattle.checker.proofs.LeastLost.{lost_is_least}
use Rattle.checker.proofs.laws.lost_is_least.Goals as goal

pub returns : goal.returns
returns c = lost_is_least
