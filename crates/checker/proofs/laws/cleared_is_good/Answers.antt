use Rattle.checker.proofs.Clears.{cleared_good, good_cleared}
use Rattle.checker.proofs.laws.cleared_is_good.Goals as goal

pub returns : goal.returns
returns c base policy cert = (cleared_good base policy cert, good_cleared base policy cert)
