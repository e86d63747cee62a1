use Rattle.ansi_line.proofs.Placed.{screen_reads_back}
use Rattle.ansi_line.proofs.laws.screen_reads_back.Goals as goal

pub returns : goal.returns
returns c = screen_reads_back
