-- The screens of all frames of a base.
use Rattle.std.specs.Prelude.{◌≡◌, ℕ, List, Option}
use Rattle.indexmap.specs.IndexMap.{get}
use Rattle.page_ids.specs.Ids.{Id, id_eq}
use Rattle.frame_records.specs.Bases.{BaseView}
use Rattle.finder.specs.Finds.{IsFinding}
use Rattle.finder.specs.Survey.{SurveyView}
use Rattle.frame_screens.specs.Frames.{place_of, way_by}
use Rattle.frame_screens.specs.declared.places.FramePlaces.{FramePlaces}

-- The places of frames.

-- the place that is held of a frame
abbrev pub place_held : FramePlaces → Id → Option ℕ
place_held places id = get id_eq places.map id

-- The screens.

-- what was found of the base, and each frame's place in it
pub record IsGallery (base : BaseView) (survey : SurveyView) (places : FramePlaces) : Type 0 where
  pub painted : survey.base ≡ base
  pub finding : IsFinding survey.groups survey.base survey.found
  pub placed : (id : Id) → place_held places id ≡ place_of survey.found id

-- the frames on the way to a frame, by the list of those that are reached
abbrev pub way_in : SurveyView → Id → List Id
way_in s id = way_by s.groups s.base s.found id (place_of s.found id)
