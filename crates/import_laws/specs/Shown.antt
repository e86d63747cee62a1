-- What the frames of a base that is made of screens show.
use Rattle.std.specs.Prelude.{◌≡◌, ◌↔◌, ℕ, Bool, false, List, ◌∷◌, Option, Some, take, drop}
use Rattle.std.specs.List.{All, list_any}
use Rattle.page_ids.specs.Ids.{Id}
use Rattle.frame_records.specs.declared.frame.Frame.{Frame}
use Rattle.frame_records.specs.Bases.{BaseView, frame_at}
use Rattle.terminal_codes.specs.Screen.{Screen}
use Rattle.terminal_codes.specs.Bodies.{IsClean}
use Rattle.terminal_codes.specs.Writes.{is_double_height}
use Rattle.frame_screens.specs.Frames.{last_frame}
use Rattle.frame_screens.specs.Screens.{with_frames, records, screen_codes}
use Rattle.screen_files.specs.declared.filed.Filed.{Filed}
use Rattle.screen_files.specs.Laws.{rows_alone}
use Rattle.screen_files.specs.Settling.{inner_codes}
use Rattle.screen_files.specs.Album.{IsBaseText}
use Rattle.import_laws.specs.Imported.{IsFiled}
use Rattle.import_laws.specs.Bases.{screen_base}

-- row 22 has a double height, whose lower half shows in row 23
abbrev pub is_tall_in_row_22 : List ℕ → Bool
is_tall_in_row_22 codes = list_any is_double_height (take 40 (drop 880 codes))

-- a frame of the base shows a screen
pub record ShowsScreen (base : BaseView) (f : Filed) : Type 0 where
  pub frame : Frame
  pub found : frame_at base f.frame.id ≡ Some frame
  -- it writes in no service row, unless row 22 has a double height
  pub clean : IsClean frame.lead frame.body ↔ (is_tall_in_row_22 f.frame.codes ≡ false)
  -- a terminal after frames of which it is the last has rows 1 to 22 of the screen, between blank ones
  pub shown : (t : Screen) (ids : List Id) → last_frame ids ≡ Some f.frame.id → (with_frames t (records base ids)).cells ≡ rows_alone f.frame.codes
  -- and so have the codes that `show` and `export` write
  pub exported : (ids : List Id) → last_frame ids ≡ Some f.frame.id → inner_codes (screen_codes base ids) ≡ inner_codes f.frame.codes

-- each screen of which the text of a base is made is shown by its frame
abbrev pub ImportsShowScreens : Type 0
ImportsShowScreens =
    (asked : Option ℕ) (guessed : Bool) (f : Filed) (rest : List Filed) (text : List ℕ)
    → All IsFiled (f ∷ rest) → (made : IsBaseText asked guessed (f ∷ rest) text)
    → All (ShowsScreen (screen_base asked made.known f rest)) (f ∷ rest)
