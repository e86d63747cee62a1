use Rattle.screens.proofs.Rounded.{outlines_are_rounded}
use Rattle.screens.proofs.laws.outlines_are_rounded.Goals as goal

pub returns : goal.returns
returns c = outlines_are_rounded
