use Rattle.import_laws.proofs.Means.{means}
use Rattle.import_laws.proofs.laws.imports_are_bases.Goals as goal

pub returns : goal.returns
returns c = means
