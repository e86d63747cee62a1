use Rattle.cert_table.proofs.Tables.{are_rows, no_fault}
use Rattle.cert_table.proofs.certificate.faults_are_exact.Goals as goal

pub returns : goal.returns
returns c rows = (are_rows rows, no_fault rows)
