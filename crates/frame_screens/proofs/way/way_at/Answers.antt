use Rattle.std.proofs.Common.{◌∙◌, ◌++◌, ap, sym, reverse, List}
use Rattle.page_ids.specs.Ids.{Id}
use Rattle.frame_screens.proofs.Ways.{earlier_by, fewer_left, parent_is_listed, way_begins, way_goes_on}
use Rattle.frame_screens.proofs.way.way_at.Goals as goal

pub loop-at-init : goal.loop-at-init
loop-at-init c =
    let survey = c.args.survey.now in
    let found = survey.found in
    let at = c.reached_at-at.result.now in
    let begins = way_begins survey.groups survey.base found c.requires.finds c.args.place at c.reached_at-at.ensures in
    let before = earlier_by survey.groups survey.base found at.parent in
    record {
      listed = (c.args.place, c.reached_at-at.ensures);
      way = begins ∙ ap (λ (ids : List Id). before ++ reverse ids) (sym c.in_ok-back.ensures);
    }

pub reached_at-at-requires-in-Some : goal.reached_at-at-requires-in-Some
reached_at-at-requires-in-Some c =
    let survey = c.args.survey.now in
    let listed = c.loop-at.invariant.listed in
    let at = c.loop-at.at.now in
    let parent = c.in-Some in
    parent_is_listed survey.groups survey.base survey.found c.requires.finds listed.0 at parent.parent listed.1 parent.is

pub loop-at-smaller : goal.loop-at-smaller
loop-at-smaller c =
    let survey = c.args.survey.now in
    let next = c.reached_at-at-in-Some in
    fewer_left survey.groups survey.base survey.found c.requires.finds c.in-Some.parent c.loop-at.at.now.parent
    next.result.now c.in-Some.is next.ensures

pub loop-at-preserved : goal.loop-at-preserved
loop-at-preserved c =
    let survey = c.args.survey.now in
    let next = c.reached_at-at-in-Some in
    let goes_on = way_goes_on survey.groups survey.base survey.found c.requires.finds c.args.place c.in-Some.parent
    c.loop-at.at.now.parent next.result.now c.loop-at.back c.in-Some.is next.ensures c.loop-at.invariant.way in
    let before = earlier_by survey.groups survey.base survey.found next.result.now.parent in
    record {
      listed = (c.in-Some.parent, next.ensures);
      way = goes_on ∙ ap (λ (ids : List Id). before ++ reverse ids) (sym c.in_ok-push.ensures);
    }
