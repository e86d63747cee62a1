use Rattle.screens.proofs.Tags.{picture_reads_back}
use Rattle.screens.proofs.laws.picture_reads_back.Goals as goal

pub returns : goal.returns
returns c = picture_reads_back
