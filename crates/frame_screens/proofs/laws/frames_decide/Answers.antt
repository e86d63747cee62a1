use Rattle.frame_screens.proofs.Rows.{alike, cleared, in_turn}
use Rattle.frame_screens.proofs.laws.frames_decide.Goals as goal

pub returns : goal.returns
returns c = record { sent = alike; cleared = cleared; in_turn = in_turn }
