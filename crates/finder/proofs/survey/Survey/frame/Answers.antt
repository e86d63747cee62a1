use Rattle.std.proofs.Common.{◌≡◌, Some, slice_get, get_or, length, sym, ◌∙◌, ap, arith}
use Rattle.finder.proofs.Words.{get_or_from_slice_get, frame_at, SurveyView}
use Rattle.finder.proofs.Whole.{placed, node_within}
use Rattle.finder.proofs.survey.Survey.frame.Goals as goal

pub bounds-frames-index : goal.bounds-frames-index
bounds-frames-index c = omega (arith, node_within c.self.inside.table.base.now _ _ c.args.index _ c.frames.ensures.valid.ascending c.self.invariant c.index.ensures, ap length c.frames.ensures.all)

pub returns : goal.returns
returns c = λ d at.
    let f = c.index-frames-index.result in
    let s = placed c.self.inside.table.base.now _ _ c.args.index c.index.result.now c.frames.ensures.valid.ascending c.self.invariant c.index.ensures in
    let listed : slice_get c.self.inside.found c.args.index ≡ Some d = ap (λ (v : SurveyView). slice_get v.found c.args.index) c.self.view_is ∙ at in
    let same : s.0 ≡ f = sym (get_or_from_slice_get c.self.inside.table.base.now.frames c.index.result.now s.0 f s.1) ∙ ap (λ fs. get_or fs c.index.result.now f) (sym c.frames.ensures.all) ∙ sym c.index-frames-index.is in
    ap (λ (v : SurveyView). frame_at v.base d.id) (sym c.self.view_is) ∙ s.2 d listed ∙ ap Some same
