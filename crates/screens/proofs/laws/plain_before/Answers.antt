use Rattle.screens.proofs.Plain.{plain_before}
use Rattle.screens.proofs.laws.plain_before.Goals as goal

pub returns : goal.returns
returns c = plain_before
