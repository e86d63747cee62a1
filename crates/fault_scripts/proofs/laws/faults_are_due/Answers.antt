use Rattle.fault_scripts.proofs.FaultsDue.{faults_due}
use Rattle.fault_scripts.proofs.laws.faults_are_due.Goals as goal

pub returns : goal.returns
returns c = faults_due
