use Rattle.std.proofs.Common.{arith, subst, sym}
use Rattle.frame_screens.specs.Loops.{IsTerminalBefore}
use Rattle.frame_screens.proofs.Painted.{new_is_before, is_before}
use Rattle.frame_screens.proofs.Ways.{parent_before, parent_is_listed}
use Rattle.frame_screens.proofs.painter.terminal_before.Goals as goal

pub terminal_after-requires-clause-within : goal.terminal_after-requires-clause-within
terminal_after-requires-clause-within c =
    let s = c.args.survey.now in
    let before = parent_before s.groups s.base s.found c.requires.finds c.args.place c.reached_at.result.now c.in-Some.parent c.reached_at.ensures c.in-Some.is in
    omega (arith, before, c.requires.before)

pub terminal_after-requires-clause-found : goal.terminal_after-requires-clause-found
terminal_after-requires-clause-found c =
    let s = c.args.survey.now in
    parent_is_listed s.groups s.base s.found c.requires.finds c.args.place c.reached_at.result.now c.in-Some.parent c.reached_at.ensures c.in-Some.is

pub returns-in-Some : goal.returns-in-Some
returns-in-Some c =
    is_before c.args.survey.now c.args.place c.reached_at.result.now c.in-Some.parent c.terminal_after.result c.reached_at.ensures c.in-Some.is c.terminal_after.ensures

pub returns-in-None : goal.returns-in-None
returns-in-None c =
    subst (IsTerminalBefore c.args.survey.now c.args.place) (sym c.new.ensures)
    (new_is_before c.args.survey.now c.args.place c.reached_at.result.now c.reached_at.ensures c.in-None.is)
