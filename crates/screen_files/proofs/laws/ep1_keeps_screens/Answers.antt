use Rattle.screen_files.proofs.Kept.{kept}
use Rattle.screen_files.proofs.laws.ep1_keeps_screens.Goals as goal

pub returns : goal.returns
returns c = kept
