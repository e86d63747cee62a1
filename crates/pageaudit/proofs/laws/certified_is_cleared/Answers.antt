use Rattle.pageaudit.proofs.Certified.{clears}
use Rattle.pageaudit.proofs.laws.certified_is_cleared.Goals as goal

pub returns : goal.returns
returns c = clears
