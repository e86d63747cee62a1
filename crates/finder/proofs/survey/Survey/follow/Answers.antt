use Rattle.std.proofs.Common.{◌≡◌, Some, slice_get, sym, ◌∙◌, ap, arith}
use Rattle.frame_records.specs.Ways.{destination, destination_by}
use Rattle.finder.specs.Survey.{SurveyView}
use Rattle.finder.proofs.Whole.{placed, node_within}
use Rattle.finder.proofs.survey.Survey.follow.Goals as goal

pub follow-requires : goal.follow-requires
follow-requires c = omega (arith, node_within c.self.inside.table.base.now _ _ c.args.index _ c.self.inside.table.valid.ascending c.self.invariant c.index.ensures, c.self.inside.table.nodes)

pub returns : goal.returns
returns c = λ d at.
    let table = c.self.inside.table in
    let way = c.args.way.now in
    let s = placed table.base.now _ _ c.args.index c.index.result.now table.valid.ascending c.self.invariant c.index.ensures in
    let listed : slice_get c.self.inside.found c.args.index ≡ Some d = ap (λ (v : SurveyView). slice_get v.found c.args.index) c.self.view_is ∙ at in
    c.follow.ensures s.0 s.1 ∙ ap (destination_by table.groups.now table.base.now way) (sym (s.2 d listed)) ∙ ap (λ (v : SurveyView). destination v.groups v.base d.id way) c.self.view_is
