-- What a frame shows that stays, since it shows the screen.
use Rattle.std.specs.Prelude.{◌≡◌, ◌↔◌, List, ℕ, true}
use Rattle.frame_records.specs.declared.frame.Lead.TheVariants.{Clear}
use Rattle.terminal_codes.specs.Screen.{Screen, run}
use Rattle.terminal_codes.specs.Bodies.{lead_codes}
use Rattle.screen_forms.specs.Laws.{IsSavedScreen}
use Rattle.base_text.specs.Rows.{body_of_rows}
use Rattle.screen_files.specs.Laws.{rows_alone}
use Rattle.screen_files.specs.Rows.{rows_of}
use Rattle.frame_edits.specs.Merging.{shows_rows}

-- every terminal that received the lead and the body has rows 1 to 22 of the screen, between blank rows
abbrev pub AllShow : List ℕ → List ℕ → Type 0
AllShow body screen = (t : Screen) → (run (run t (lead_codes Clear)) body).cells ≡ rows_alone screen

-- what is tried on one terminal
pub record SameFramesShow : Type 0 where
  -- is so on all
  pub shown : (body screen : List ℕ) → (shows_rows body screen ≡ true) ↔ AllShow body screen
  -- and of the rows that are written of a screen
  pub written : (screen : List ℕ) → IsSavedScreen screen → shows_rows (body_of_rows (rows_of screen)) screen ≡ true
