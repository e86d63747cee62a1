use Rattle.frame_edits.proofs.Alike.{shown, written}
use Rattle.frame_edits.proofs.laws.same_frames_show.Goals as goal

pub returns : goal.returns
returns c = record { shown = shown; written = written }
