use Rattle.std.proofs.Common.{◌≡◌, sym, ◌∙◌, subst, Some}
use Rattle.finder.specs.Survey.{id_at}
use Rattle.frame_records.specs.Bases.{BaseView}
use Rattle.finder.proofs.Near.{is_near_to}
use Rattle.finder.proofs.window.within.Goals as goal

pub returns : goal.returns
returns c =
    let of = c.in_ok-of.ensures in
    let starts = subst (λ (b : BaseView). id_at b.frames c.in-Some.start ≡ Some c.args.id) (sym of.base) c.in-Some.ensures.some in
    is_near_to _ c.args.id c.as_slice.result.now c.args.most _ starts c.in_ok-ranks.ranks.items c.as_slice.ensures.value c.in_ok-ranks.ensures.ranks
    c.in_ok-near.ensures _ _ (of.groups ∙ c.in_ok-notes.ensures.groups) (of.base ∙ c.in_ok-notes.ensures.base)
