use Rattle.std.proofs.Common.{List, ℕ, subst, sym}
use Rattle.frame_records.specs.Bases.{BaseView}
use Rattle.finder.specs.Finds.{IsFinding}
use Rattle.frame_screens.proofs.gallery.Gallery.of.Goals as goal

pub over-requires : goal.over-requires
over-requires c =
    let survey = c.in_ok-survey.survey in
    let has = c.in_ok-survey.ensures in
    subst (λ (base : BaseView). IsFinding survey.groups base survey.found) (sym has.base)
    (subst (λ (groups : List ℕ). IsFinding groups c.args.base.now survey.found) (sym has.groups) has.found)
