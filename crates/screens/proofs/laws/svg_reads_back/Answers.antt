use Rattle.screens.proofs.Tags.{svg_reads_back}
use Rattle.screens.proofs.laws.svg_reads_back.Goals as goal

pub returns : goal.returns
returns c = svg_reads_back
