use Rattle.std.proofs.Common.{◌∙◌, Some, None, ap, subst, sym}
use Rattle.terminal_codes.specs.Screen.{Screen}
use Rattle.finder.proofs.Lists.{at_within}
use Rattle.frame_screens.specs.Screens.{with_frame}
use Rattle.frame_screens.specs.Painted.{IsAfter}
use Rattle.frame_screens.proofs.Painted.{after_clearing}
use Rattle.frame_screens.proofs.painter.terminal_after.Goals as goal

pub returns-in-Some : goal.returns-in-Some
returns-in-Some c =
    let at = c.kept_of.ensures ∙ ap Some c.in-Some.is in
    let is = c.requires.kept c.args.place (Some c.in-Some.terminal) at in
    subst (IsAfter c.args.survey.now c.args.place) (sym (c.copy.ensures ∙ c.deref.ensures)) is

pub returns-in-None : goal.returns-in-None
returns-in-None c =
    let s = c.args.survey.now in
    let clears = c.requires.kept c.args.place None (c.kept_of.ensures ∙ ap Some c.in-None.is) in
    let at = at_within s.found c.args.place c.requires.found in
    let f = c.frame.result.now in
    let is = c.send.ensures ∙ ap (λ (t : Screen). with_frame t f) c.new-terminal.ensures in
    subst (IsAfter s c.args.place) (sym is)
    (after_clearing s c.requires.finds c.args.place at.0 at.1 f c.frame.ensures (clears f c.frame.ensures))
