use Rattle.editions.proofs.NewNumbers.{next_new}
use Rattle.editions.proofs.numbering.next_is_new.Goals as goal

pub returns : goal.returns
returns c = next_new
