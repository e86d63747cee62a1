use Rattle.editions.proofs.ChainLaws.{wider_stays}
use Rattle.editions.proofs.laws.wider_stays_cleared.Goals as goal

pub returns : goal.returns
returns c = wider_stays
