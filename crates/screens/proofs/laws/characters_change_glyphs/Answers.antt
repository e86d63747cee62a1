use Rattle.screens.proofs.Held.{characters_change_glyphs}
use Rattle.screens.proofs.laws.characters_change_glyphs.Goals as goal

pub returns : goal.returns
returns c = characters_change_glyphs
