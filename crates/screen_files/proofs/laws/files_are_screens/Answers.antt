use Rattle.screen_files.proofs.Saved.{files}
use Rattle.screen_files.proofs.laws.files_are_screens.Goals as goal

pub returns : goal.returns
returns c = files
