use Rattle.std.proofs.Common.{◌≡◌, drop}
use Rattle.frame_screens.specs.Screens.{new_terminal, with_frames, records}
use Rattle.frame_screens.specs.Loops.{since_clear}
use Rattle.frame_screens.proofs.sending.terminal_after.Given as goal

-- the frames that are left make of the terminal what those since the last that clears make of a new one
abbrev pub invariant-loop-id : goal.invariant-loop-id
invariant-loop-id l =
    with_frames l.terminal (records l.base (drop l.id-index (since_clear l.base l.frames)))
    ≡ with_frames new_terminal (records l.base (since_clear l.base l.frames))
