use Rattle.finder.proofs.OneFound.{one_found}
use Rattle.finder.proofs.laws.found_is_one.Goals as goal

pub returns : goal.returns
returns c = one_found
