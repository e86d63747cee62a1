-- What functions that aren't exported say. No promise rests on it.
use Rattle.std.specs.Prelude.{◌≡◌, ℕ, List, [], ◌∷◌, ◌++◌, Option, Result, Ok, Err, get_or}
use Rattle.screen_forms.specs.Addresses.{then_screens}
use Rattle.screen_forms.specs.Sheets.{Sheet}
use Rattle.screen_forms.specs.declared.sheets.SheetReader.{SheetReader}
use Rattle.screen_forms.specs.Bits.{group_bytes, group_cells}
use Rattle.screen_forms.specs.declared.text_screens.TextScreen.{TextScreen}
use Rattle.screen_forms.specs.declared.text_screens.TextLineFault.{TextLineFault}
use Rattle.screen_forms.specs.declared.text_screens.FaultyLine.{FaultyLine}
use Rattle.screen_forms.specs.declared.text_screens.TextScreensFault.{TextScreensFault}
use Rattle.screen_forms.specs.declared.text_screens.TextScreensFault.TheVariants.{Line, Memory}

-- screens, then those of the lines that are left, or their fault
abbrev pub after_screens : List TextScreen → Result (List TextScreen) FaultyLine → Result (List TextScreen) FaultyLine
after_screens screens (Err fault) = Err fault
after_screens screens (Ok more) = Ok (screens ++ more)

-- the screen of a line after others, or its fault; whatever the lines after it give
abbrev pub IsLineAdded : ℕ → List TextScreen → List TextScreen → Result (Option TextScreen) TextLineFault → Result (Unit {0}) TextScreensFault → Type 0
IsLineAdded line old new found (Ok _) =
    (more : Result (List TextScreen) FaultyLine) → after_screens old (then_screens line found more) ≡ after_screens new more
IsLineAdded line old new found (Err (Line fault)) =
    (more : Result (List TextScreen) FaultyLine) → after_screens old (then_screens line found more) ≡ Err fault
IsLineAdded line old new found (Err Memory) = Unit {0}

-- the sheet so far
abbrev pub sheet_of : SheetReader → Sheet
sheet_of r = record { done = r.done.items; page = r.page; begun = r.begun }

-- the sheet after lines, or the fault of one
abbrev pub IsSheetRead : Result Sheet FaultyLine → SheetReader → Result (Unit {0}) TextScreensFault → Type 0
IsSheetRead found new (Ok _) = found ≡ Ok (sheet_of new)
IsSheetRead found new (Err (Line fault)) = found ≡ Err fault
IsSheetRead found new (Err Memory) = Unit {0}

-- the first group of a list
abbrev pub bytes_of_eight : List ℕ → List ℕ
bytes_of_eight codes =
    group_bytes (get_or codes 0 0 ∷ get_or codes 1 0 ∷ get_or codes 2 0 ∷ get_or codes 3 0 ∷ get_or codes 4 0 ∷ get_or codes 5 0 ∷ get_or codes 6 0 ∷ get_or codes 7 0 ∷ [])

-- the same of bytes
abbrev pub cells_of_seven : List ℕ → List ℕ
cells_of_seven bytes =
    group_cells (get_or bytes 0 0 ∷ get_or bytes 1 0 ∷ get_or bytes 2 0 ∷ get_or bytes 3 0 ∷ get_or bytes 4 0 ∷ get_or bytes 5 0 ∷ get_or bytes 6 0 ∷ [])
