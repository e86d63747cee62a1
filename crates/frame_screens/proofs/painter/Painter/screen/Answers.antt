use Rattle.std.proofs.Common.{◌∙◌, ◌<◌, Option, ap, length, subst, sym}
use Rattle.frame_records.specs.declared.frame.Frame.{Frame}
use Rattle.finder.specs.Survey.{SurveyView}
use Rattle.frame_screens.specs.Screens.{new_terminal, records, screen_codes, top_by, top_row, with_frames, with_rows}
use Rattle.frame_screens.specs.Painted.{frames_to}
use Rattle.frame_screens.proofs.Painted.{last_frame}
use Rattle.frame_screens.proofs.painter.Painter.screen.Goals as goal

pub returns : goal.returns
returns c =
    let s = c.self.inside.survey in
    let f = c.frame.result.now in
    let lt = subst (λ (v : SurveyView). c.args.place < length v.found) (sym c.self.view_is) c.requires in
    let cells = (with_frames new_terminal (records s.base (frames_to s c.args.place))).cells in
    let last = last_frame s c.self.invariant.finds c.args.place lt f c.frame.ensures in
    let is = c.screen_with.ensures ∙ ap (with_rows (top_row f)) c.terminal_after-terminal.ensures.same.cells ∙ ap (λ (o : Option Frame). with_rows (top_by o) cells) (sym last) in
    is ∙ ap (λ (v : SurveyView). screen_codes v.base (frames_to v c.args.place)) c.self.view_is
