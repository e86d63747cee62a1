-- What a frame that is made of a screen shows.
use Rattle.std.specs.Prelude.{◌≡◌, ◌<◌, ℕ, List, Some, drop, take, true}
use Rattle.std.specs.List.{All, list_any}
use Rattle.frame_records.specs.declared.frame.Lead.TheVariants.{Clear}
use Rattle.terminal_codes.specs.Screen.{Screen, run}
use Rattle.terminal_codes.specs.Bodies.{lead_codes}
use Rattle.screen_forms.specs.Forms.{ep1_bytes}
use Rattle.screen_forms.specs.Laws.{IsSavedScreen}
use Rattle.base_text.specs.Rows.{body_of_rows}
use Rattle.screen_files.specs.Captures.{capture_screens}
use Rattle.screen_files.specs.Codes.{between_blank, is_space_byte, saved_codes}
use Rattle.screen_files.specs.Rows.{rows_of}

-- rows 1 to 22 of a screen, between blank rows 0 and 23
abbrev pub rows_alone : List ℕ → List ℕ
rows_alone screen = between_blank (take 880 (drop 40 screen))

-- a terminal that received the lead and the frame's rows has in rows 1 to 22 the very codes of the screen
abbrev pub FramesShowScreens : Type 0
FramesShowScreens = (t : Screen) (screen : List ℕ) → IsSavedScreen screen
    → (run (run t (lead_codes Clear)) (body_of_rows (rows_of screen))).cells ≡ rows_alone screen

-- what a file of bytes gives is such a screen
pub record FilesAreScreens : Type 0 where
  pub saved : (bytes screen : List ℕ) → All (λ b. b < 256) bytes → saved_codes bytes ≡ Some screen → IsSavedScreen screen
  pub sent : (bytes : List ℕ) → All (λ s. IsSavedScreen s.codes) (capture_screens bytes)

-- the EP1 file of a screen with a space is read as that screen
abbrev pub Ep1KeepsScreens : Type 0
Ep1KeepsScreens = (screen : List ℕ) → IsSavedScreen screen → list_any is_space_byte screen ≡ true → saved_codes (ep1_bytes screen) ≡ Some screen
