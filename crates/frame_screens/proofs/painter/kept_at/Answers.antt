use Rattle.std.proofs.Common.{◌∙◌, ap, subst, sym}
use Rattle.frame_records.specs.declared.frame.Frame.{Frame}
use Rattle.finder.proofs.Lists.{at_within}
use Rattle.frame_screens.specs.Painted.{IsAfter}
use Rattle.frame_screens.proofs.Painted.{after_before, one_frame}
use Rattle.frame_screens.proofs.painter.kept_at.Goals as goal

pub returns-in-Clear : goal.returns-in-Clear
returns-in-Clear c = λ f is.
    ap (λ (g : Frame). g.lead) (one_frame c.args.survey.now c.args.place c.requires.found f c.frame-frame.result.now is c.frame-frame.ensures) ∙ c.in-Clear.is

pub returns-in_ok-new-in-Keep : goal.returns-in_ok-new-in-Keep
returns-in_ok-new-in-Keep c =
    let s = c.args.survey.now in
    let at = at_within s.found c.args.place c.requires.found in
    let f = c.frame-frame.result.now in
    let sent = after_before s c.requires.finds c.args.place at.0 at.1 f c.frame-frame.ensures c.terminal_before-terminal.result c.terminal_before-terminal.ensures in
    subst (IsAfter s c.args.place) (sym (c.in_ok-new-in-Keep.ensures.ok ∙ c.send.ensures)) sent
