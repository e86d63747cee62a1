use Rattle.base_text.proofs.KeptDetails.{all_listed, begin_alike}
use Rattle.base_text.proofs.laws.faults_are_listed.Goals as goal

pub returns-clause-listed : goal.returns-clause-listed
returns-clause-listed c = all_listed

pub returns-clause-first : goal.returns-clause-first
returns-clause-first c = begin_alike
