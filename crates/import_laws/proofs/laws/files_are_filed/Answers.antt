use Rattle.import_laws.proofs.FiledFiles.{filed}
use Rattle.import_laws.proofs.laws.files_are_filed.Goals as goal

pub returns : goal.returns
returns c = filed
