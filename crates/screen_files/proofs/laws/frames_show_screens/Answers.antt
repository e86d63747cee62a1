use Rattle.screen_files.proofs.Shown.{frames_show}
use Rattle.screen_files.proofs.laws.frames_show_screens.Goals as goal

pub returns : goal.returns
returns c = frames_show
