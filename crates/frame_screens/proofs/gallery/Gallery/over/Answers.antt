use Rattle.std.proofs.Common.{◌≡◌, subst, sym, rules}
use Rattle.page_ids.specs.Ids.{Id}
use Rattle.finder.specs.Finds.{IsFinding}
use Rattle.finder.specs.Survey.{SurveyView}
use Rattle.frame_screens.specs.Frames.{place_of}
use Rattle.frame_screens.specs.Gallery.{place_held}
use Rattle.frame_screens.proofs.gallery.Gallery.over.Goals as goal

pub invariant_of-result : goal.invariant_of-result
invariant_of-result c =
    record {
      painted = search rules;
      finding = subst (λ (s : SurveyView). IsFinding s.groups s.base s.found) (sym c.in_ok-painter.ensures) c.requires;
      placed = subst (λ (s : SurveyView). (id : Id) → place_held c.in_ok-places.places id ≡ place_of s.found id) (sym c.in_ok-painter.ensures) c.in_ok-places.ensures;
    }
