use Rattle.ansi_line.proofs.Fits.{ansi_fits}
use Rattle.ansi_line.proofs.Written.{ansi_reads_back, same_cells, same_text}
use Rattle.ansi_line.proofs.laws.ansi_reads_back.Goals as goal

pub returns-clause-shows : goal.returns-clause-shows
returns-clause-shows c = ansi_reads_back

pub returns-clause-fits : goal.returns-clause-fits
returns-clause-fits c = ansi_fits

pub returns-clause-same : goal.returns-clause-same
returns-clause-same c = λ cells others. (same_cells cells others, same_text cells others)
