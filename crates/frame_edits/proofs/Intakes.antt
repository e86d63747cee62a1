-- One frame more.
use Rattle.std.proofs.Common.{◌≡◌, ◌∙◌, List, [], ◌∷◌, Option, ap, sym}
use Rattle.frame_records.specs.Bases.{BaseView}
use Rattle.lint.specs.declared.pictures.PicturePlace.{PicturePlace}
use Rattle.screen_files.specs.declared.filed.Filed.{Filed}
use Rattle.frame_edits.specs.Merging.{IntakeView, fate_of, intake_from, is_shown, taken_by}

pub at_end : (base : BaseView) (i : IntakeView) (places : List (Option PicturePlace)) (frames : List Filed) → frames ≡ [] → intake_from base i places frames ≡ i
unfolding intake_from
at_end base i places frames none = ap (intake_from base i places) none

module _ (base : BaseView) (i : IntakeView) (places : List (Option PicturePlace)) (frames more : List Filed) (f : Filed) (is : frames ≡ f ∷ more) where
  pub without_places : places ≡ [] → intake_from base i places frames ≡ i
  unfolding intake_from
  without_places none = ap (λ (ps : List (Option PicturePlace)). intake_from base i ps frames) none ∙ ap (intake_from base i []) is

  pub one_more : (p : Option PicturePlace) (others : List (Option PicturePlace)) → places ≡ p ∷ others
      → intake_from base (taken_by i f (fate_of p (is_shown base f.frame))) others more ≡ intake_from base i places frames
  unfolding intake_from
  one_more p others here = sym (ap (λ (ps : List (Option PicturePlace)). intake_from base i ps frames) here ∙ ap (intake_from base i (p ∷ others)) is)
