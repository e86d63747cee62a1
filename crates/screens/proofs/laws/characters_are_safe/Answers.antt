use Rattle.screens.proofs.Safe.{characters_are_safe}
use Rattle.screens.proofs.laws.characters_are_safe.Goals as goal

pub returns : goal.returns
returns c = characters_are_safe
