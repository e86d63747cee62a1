use Rattle.import_laws.proofs.Seen.{seen}
use Rattle.import_laws.proofs.laws.imports_show_screens.Goals as goal

pub returns : goal.returns
returns c = seen
