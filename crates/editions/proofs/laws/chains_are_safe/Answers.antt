use Rattle.editions.proofs.ChainLaws.{chains_safe}
use Rattle.editions.proofs.laws.chains_are_safe.Goals as goal

pub returns : goal.returns
returns c = chains_safe
