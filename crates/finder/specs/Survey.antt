-- The discovered frames of a base.
use Rattle.std.specs.Prelude.{◌≡◌, ℕ, List, Option, Some, option_map, length, slice_get}
use Rattle.page_ids.specs.Ids.{Id}
use Rattle.frame_records.specs.declared.frame.Frame.{Frame}
use Rattle.frame_records.specs.Bases.{BaseView, frame_at}
use Rattle.finder.specs.declared.found.Discovered.{Discovered}

-- the base, the caller's groups, and the frames that are discovered
pub record SurveyView : Type 0 where
  pub base : BaseView
  pub groups : List ℕ
  pub found : List Discovered

-- the record of the frame at an index
abbrev pub IsFrameAt : SurveyView → ℕ → Frame → Type 0
IsFrameAt survey index frame = (d : Discovered) → slice_get survey.found index ≡ Some d → frame_at survey.base d.id ≡ Some frame

-- The nodes of the discovered frames. A node is a frame's position in the base.

-- the id of the frame of a node
abbrev pub id_at : List Frame → ℕ → Option Id
id_at frames node = option_map (λ f. f.id) (slice_get frames node)

-- each listed frame is that of its node
pub record AreNamed (frames : List Frame) (nodes : List ℕ) (found : List Discovered) : Type 0 where
  pub each : (i node : ℕ) (d : Discovered) → slice_get nodes i ≡ Some node → slice_get found i ≡ Some d
      → id_at frames node ≡ Some d.id
  pub as_many : length found ≡ length nodes
