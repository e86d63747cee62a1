-- Facts that hold between the turns of loops, and what functions that aren't exported say. No promise rests on them.
use Rattle.std.specs.Prelude.{ℕ, Option, Some, None, nat_lt, if◌then◌else◌, List, [], ◌≡◌, slice_get, Bool, false, ◌∷◌}
use Rattle.page_ids.specs.Ids.{Id}
use Rattle.finder.specs.Survey.{SurveyView}
use Rattle.frame_screens.specs.Painted.{frames_to}
use Rattle.terminal_codes.specs.Screen.{Screen, IsScreen}
use Rattle.finder.specs.declared.found.Discovered.{Discovered}
use Rattle.frame_screens.specs.Screens.{new_terminal, with_frames, records, is_clearing}
use Rattle.frame_screens.specs.Laws.{LooksSame}
use Rattle.frame_records.specs.declared.frame.Frame.{Frame}
use Rattle.frame_records.specs.Bases.{BaseView, frame_at}
use Rattle.std.specs.List.{list_any}

-- The places of frames that are held so far.

-- the place, if it is before another one
abbrev pub if_before : ℕ → Option ℕ → Option ℕ
if_before done None = None
if_before done (Some place) = if nat_lt place done then Some place else None

-- Frames that are sent since the last one that clears.

-- a frame that the base lacks clears nothing
abbrev pub clears_by : Option Frame → Bool
clears_by None = false
clears_by (Some f) = is_clearing f.lead

-- the frame of an id clears the screen
abbrev pub clears : BaseView → Id → Bool
clears base id = clears_by (frame_at base id)

-- the frames from the last that clears on; all if none does
abbrev pub since_clear : BaseView → List Id → List Id
since_clear base [] = []
since_clear base (id ∷ ids) = if list_any (clears base) ids then since_clear base ids else id ∷ ids

-- The terminal on which a frame is sent.

-- the frames that are sent before a frame with this parent
abbrev pub before_by : SurveyView → Option ℕ → List Id
before_by s None = []
before_by s (Some parent) = frames_to s parent

-- a terminal that looks the same as the one on which the frame at a place is sent
pub record IsTerminalBefore (s : SurveyView) (place : ℕ) (t : Screen) : Type 0 where
  pub screen : IsScreen t
  pub same : (d : Discovered) → slice_get s.found place ≡ Some d → LooksSame t (with_frames new_terminal (records s.base (before_by s d.parent)))
