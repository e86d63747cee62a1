use Rattle.screens.proofs.Shows.{text_is_its_lines}
use Rattle.screens.proofs.laws.text_is_its_lines.Goals as goal

pub returns : goal.returns
returns c = text_is_its_lines
