use Rattle.fault_scripts.proofs.NoneSafe.{none_safe}
use Rattle.fault_scripts.proofs.laws.none_is_safe.Goals as goal

pub returns : goal.returns
returns c = none_safe
