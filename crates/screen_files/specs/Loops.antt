-- What functions that aren't exported say. No promise rests on it.
use Rattle.std.specs.Prelude.{◌≡◌, ◌<◌, ◌≤◌, ℕ, Bool, not, List, ◌++◌, Option, Some, None, Result, Ok, Err, ◌==◌, ◌||◌, length, nat_le, if◌then◌else◌}
use Rattle.page_ids.specs.Ids.{Id}
use Rattle.page_ids.specs.declared.limits.TheConstants.{MOST_PAGE}
use Rattle.screens.specs.declared.look.Look.{Look}
use Rattle.screen_files.specs.declared.capture.Shot.{Shot}
use Rattle.screen_files.specs.declared.capture.CaptureFault.{CaptureFault}
use Rattle.screen_files.specs.declared.capture.CaptureFault.TheVariants.{TooMany, Memory}
use Rattle.screen_files.specs.declared.capture.TheConstants.{MOST_SHOTS}
use Rattle.screen_files.specs.declared.file.FoundScreens.{FoundScreens}
use Rattle.screen_files.specs.declared.file.FramesFault.{FramesFault}
use Rattle.screen_files.specs.declared.file.FramesFault.TheVariants as frames
use Rattle.screen_files.specs.declared.file.ScreenFault.{ScreenFault}
use Rattle.screen_files.specs.Files.{ScreenList}
use Rattle.screen_files.specs.Routes.{guessed_routes, is_guessed, leads_by, page_by}

-- rows 1 to 22, or all
abbrev pub has_row_size : List ℕ → Bool
has_row_size rows = length rows == 880 || length rows == 960

-- screens after others, or why they aren't; there are at most as many as a capture may have
abbrev pub AreShotsAdded : List Shot → List Shot → List Shot → Result (Unit {0}) CaptureFault → Type 0
AreShotsAdded old new more (Ok _) = (new ≡ old ++ more) × (length old ≤ MOST_SHOTS → length new ≤ MOST_SHOTS)
AreShotsAdded old new more (Err TooMany) = MOST_SHOTS < length (old ++ more)
AreShotsAdded old new more (Err Memory) = Unit {0}

-- what was found, or why nothing was; a growth may be refused first
abbrev pub IsFound : Result ScreenList ScreenFault → Result FoundScreens FramesFault → Type 0
IsFound found (Ok screens) = found ≡ Ok (record { filed = screens.filed.items; unnamed = screens.unnamed.items })
IsFound found (Err (frames.Screen fault)) = found ≡ Err fault
IsFound found (Err frames.Memory) = Unit {0}

-- Guessed routes.

abbrev pub page_if_in_range : ℕ → Option ℕ
page_if_in_range page = if nat_le page MOST_PAGE then Some page else None

-- the page to which a digit leads by its number, if there is one
abbrev pub guess : List Id → ℕ → ℕ → Option ℕ
guess known page digit = if leads_by known page digit then Some (page_by page digit) else None

-- and the screen shows the digit as a key
abbrev pub guessed : List Id → ℕ → List (List Look) → ℕ → Option ℕ
guessed known page all digit = if is_guessed known page all digit then Some (page_by page digit) else None

-- they are appended, and whether there are some
pub record AreGuessed (old new : List ℕ) (known : List Id) (page : ℕ) (all : List (List Look)) (some : Bool) : Type 0 where
  pub appended : new ≡ old ++ guessed_routes known page all
  pub are_some : some ≡ not (length (guessed_routes known page all) == 0)
