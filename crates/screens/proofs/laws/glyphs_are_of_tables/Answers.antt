use Rattle.screens.proofs.Glyphs.{glyphs_are_of_tables}
use Rattle.screens.proofs.laws.glyphs_are_of_tables.Goals as goal

pub returns : goal.returns
returns c = glyphs_are_of_tables
