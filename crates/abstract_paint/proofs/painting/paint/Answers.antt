use Rattle.std.proofs.Common.{◌≡◌, ◌+◌, drop, [], ap, sym, ◌∙◌}
use Rattle.std.proofs.lemmas.List.{drop_all}
use Rattle.abstract_paint.specs.declared.painting.Painted.TheVariants.{Clean, Touches}
use Rattle.abstract_paint.specs.Paint.{paint_from, paint_of}
use Rattle.abstract_paint.proofs.ChunkRuns.{tail_is}
use Rattle.abstract_paint.proofs.Exact.{means}
use Rattle.abstract_paint.proofs.painting.paint.Goals as goal

-- a byte of the rest touches, so the fold of the whole stops there
pub returns-in-Touches-clause-meaning : goal.returns-in-Touches-clause-meaning
returns-in-Touches-clause-meaning c =
    let body = c.args.body.now in
    let done = c.loop-done.done in
    let stops = c.in-Touches.ensures.same done in
    let tail = ap (paint_from c.loop-done.cursor done) (tail_is done body) in
    let is : Touches (done + c.in-Touches.more) ≡ paint_of c.args.lead body = sym stops ∙ (tail ∙ c.loop-done.invariant.same) in
    means c.args.lead body (Touches (done + c.in-Touches.more)) is

-- nothing is left to fold
pub returns-clause-meaning : goal.returns-clause-meaning
returns-clause-meaning c =
    let body = c.args.body.now in
    let done = c.loop-done.done in
    let none : drop done body ≡ [] = drop_all done body c.loop-done-test.false in
    let is : Clean c.loop-done.cursor ≡ paint_of c.args.lead body = sym (ap (paint_from c.loop-done.cursor done) none) ∙ c.loop-done.invariant.same in
    means c.args.lead body (Clean c.loop-done.cursor) is
