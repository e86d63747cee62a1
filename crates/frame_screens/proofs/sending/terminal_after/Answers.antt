use Rattle.std.proofs.Common.{◌≡◌, arith, subst, sym}
use Rattle.std.proofs.lemmas.Grind.{common_steps}
use Rattle.terminal_codes.specs.Screen.{Screen}
use Rattle.frame_screens.specs.Screens.{new_terminal, with_frames, records}
use Rattle.frame_screens.specs.Loops.{since_clear}
use Rattle.frame_screens.specs.Laws.{LooksSame}
use Rattle.frame_screens.proofs.Since.{looks_since}
use Rattle.frame_screens.proofs.sending.terminal_after.Goals as goal

pub returns : goal.returns
returns c =
    let base = c.args.base.now in
    let all = with_frames new_terminal (records base c.args.frames.now) in
    let sent : c.loop-id.terminal ≡ with_frames new_terminal (records base (since_clear base c.args.frames.now)) =
    grind (arith, common_steps, c.loop-id.invariant) in
    subst (λ (t : Screen). LooksSame t all) (sym sent) (looks_since base c.args.frames.now)
