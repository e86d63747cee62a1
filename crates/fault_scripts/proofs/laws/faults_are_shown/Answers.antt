use Rattle.fault_scripts.proofs.Shown.{faults_shown}
use Rattle.fault_scripts.proofs.laws.faults_are_shown.Goals as goal

pub returns : goal.returns
returns c = faults_shown
