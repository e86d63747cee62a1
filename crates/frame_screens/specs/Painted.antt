-- Terminals after frames that are reached, each made from its parent's.
use Rattle.std.specs.Prelude.{◌≡◌, ℕ, List, Option, Some, None, Box, length, slice_get}
use Rattle.std.specs.declared.alloc.Global.{Global}
use Rattle.page_ids.specs.Ids.{Id}
use Rattle.frame_records.specs.declared.frame.Frame.{Frame}
use Rattle.frame_records.specs.declared.frame.Lead.TheVariants.{Clear}
use Rattle.terminal_codes.specs.Screen.{Screen, IsScreen}
use Rattle.finder.specs.Finds.{FindsReached, script}
use Rattle.finder.specs.Survey.{SurveyView, IsFrameAt}
use Rattle.frame_screens.specs.Frames.{frames_sent}
use Rattle.frame_screens.specs.Screens.{new_terminal, with_frames, records}
use Rattle.frame_screens.specs.Laws.{LooksSame}

-- the frames that are sent on the keys that lead to the frame at a place
abbrev pub frames_to : SurveyView → ℕ → List Id
frames_to s place = frames_sent s.groups s.base (script s.found place)

-- a terminal that looks the same as a new one after these frames
pub record IsAfter (s : SurveyView) (place : ℕ) (t : Screen) : Type 0 where
  pub screen : IsScreen t
  pub same : LooksSame t (with_frames new_terminal (records s.base (frames_to s place)))

-- the terminal after the frame at a place; none is kept if the frame clears
abbrev pub IsKept : SurveyView → ℕ → Option (Box Screen Global) → Type 0
IsKept s place None = (f : Frame) → IsFrameAt s place f → f.lead ≡ Clear
IsKept s place (Some t) = IsAfter s place t.value

-- those of the first places
abbrev pub AreKept : SurveyView → List (Option (Box Screen Global)) → Type 0
AreKept s kept = (place : ℕ) (o : Option (Box Screen Global)) → slice_get kept place ≡ Some o → IsKept s place o

-- those of all places
pub record CanPaint (s : SurveyView) (kept : List (Option (Box Screen Global))) : Type 0 where
  pub finds : FindsReached s.groups s.base s.found
  pub all : length kept ≡ length s.found
  pub held : AreKept s kept
