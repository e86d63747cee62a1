use Rattle.fault_scripts.proofs.OneList.{faults_one}
use Rattle.fault_scripts.proofs.laws.faults_are_one.Goals as goal

pub returns : goal.returns
returns c = faults_one
