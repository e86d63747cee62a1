use Rattle.import_laws.proofs.Whole.{read}
use Rattle.import_laws.proofs.laws.imports_are_read.Goals as goal

pub returns : goal.returns
returns c = read
