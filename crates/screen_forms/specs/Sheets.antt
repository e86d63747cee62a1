-- Screens as TTI has them: a sheet of lines.
use Rattle.std.specs.Prelude.{ℕ, zero, suc, Bool, false, true, List, [], ◌∷◌, ◌++◌, Option, Some, None, Result, Ok, Err, ◌+◌, ◌-◌, ◌*◌, ◌==◌, ◌&&◌, ◌||◌, drop, get_or, length, nat_le, nat_lt, replicate, take, if◌then◌else◌}
use Rattle.std.specs.List.{list_all, list_any}
use Rattle.page_ids.specs.Ids.{Id}
use Rattle.page_ids.specs.Parts.{parts_of}
use Rattle.screen_forms.specs.Bits.{stored_code}
use Rattle.screen_forms.specs.Words.{is_digit_byte, number_id}
use Rattle.screen_forms.specs.TextScreens.{after_byte_mark}
use Rattle.screen_forms.specs.declared.sheets.TheConstants.{MOST_SHEET_PAGES}
use Rattle.screen_forms.specs.declared.text_screens.TextScreen.{TextScreen}
use Rattle.screen_forms.specs.declared.text_screens.TextLineFault.{TextLineFault}
use Rattle.screen_forms.specs.declared.text_screens.TextLineFault.TheVariants.{Pages, Row}
use Rattle.screen_forms.specs.declared.text_screens.FaultyLine.{FaultyLine}

-- The text of a row.

-- a byte 1B (27) and one of 40 to 5F are an attribute
abbrev pub is_escape : List ℕ → Bool
is_escape text = get_or text 0 0 == 27 && nat_le 0x40 (get_or text 1 0) && nat_le (get_or text 1 0) 0x5F

-- 10 is 8D
abbrev pub sheet_code : ℕ → ℕ
sheet_code b = if b == 0x10 then 0x8D else stored_code b

-- none is a space
abbrev pub first_cell : List ℕ → ℕ
first_cell text =
    if length text == 0 then 32
    else if is_escape text then get_or text 1 0 + 0x40
    else sheet_code (get_or text 0 0)

abbrev pub after_cell : List ℕ → List ℕ
after_cell text = if is_escape text then drop 2 text else drop 1 text

-- the first n cells
unfoldable pub sheet_cells : ℕ → List ℕ → List ℕ
sheet_cells zero text = []
sheet_cells (suc n) text = first_cell text ∷ sheet_cells n (after_cell text)

-- The parts of a line.

-- where a byte first is, or the end; the text begins at this place
unfoldable pub byte_from : ℕ → ℕ → List ℕ → ℕ
byte_from byte at [] = at
byte_from byte at (c ∷ cs) = if c == byte then at else byte_from byte (at + 1) cs

abbrev pub before_first_byte : ℕ → List ℕ → List ℕ
before_first_byte byte text = take (byte_from byte 0 text) text

abbrev pub after_first_byte : ℕ → List ℕ → List ℕ
after_first_byte byte text = drop (byte_from byte 0 text + 1) text

-- The number of a row.

abbrev pub is_blank_byte : ℕ → Bool
is_blank_byte b = b == 32

-- from the first byte on that is no space
unfoldable pub after_spaces : List ℕ → List ℕ
after_spaces [] = []
after_spaces (c ∷ cs) = if is_blank_byte c then after_spaces cs else c ∷ cs

abbrev pub digit_of : ℕ → Option ℕ
digit_of b = if is_digit_byte b then Some (b - 48) else None

abbrev pub tens_of : Option ℕ → Option ℕ → Option ℕ
tens_of (Some a) (Some b) = Some (a * 10 + b)
tens_of (Some a) None = None
tens_of None b = None

-- one or two digits
abbrev pub digits_number : List ℕ → Option ℕ
digits_number text =
    if length text == 1 then digit_of (get_or text 0 0)
    else if length text == 2 then tens_of (digit_of (get_or text 0 0)) (digit_of (get_or text 1 0))
    else None

-- what is before the next space; after it are only spaces
abbrev pub number_alone : List ℕ → Option ℕ
number_alone text = if list_all is_blank_byte (after_first_byte 32 text) then digits_number (before_first_byte 32 text) else None

-- with spaces around or none
abbrev pub row_number : List ℕ → Option ℕ
row_number text = number_alone (after_spaces text)

-- The lines of a sheet.

-- `PN,`: 80, 78, 44
abbrev pub is_page_line : List ℕ → Bool
is_page_line text = get_or text 0 0 == 80 && get_or text 1 0 == 78 && get_or text 2 0 == 44

-- `OL,`: 79, 76, 44
abbrev pub is_row_line : List ℕ → Bool
is_row_line text = get_or text 0 0 == 79 && get_or text 1 0 == 76 && get_or text 2 0 == 44

-- a text with such a line, of lines between line ends (10)
abbrev pub is_sheet_line : List ℕ → Bool
is_sheet_line text = is_page_line text || is_row_line text

abbrev pub is_sheet : List ℕ → Bool
is_sheet text = list_any is_sheet_line (parts_of 10 (after_byte_mark text))

-- the pages before the last one, and the last one so far, if a page has begun
pub record Sheet : Type 0 where
  pub done : List TextScreen
  pub page : TextScreen
  pub begun : Bool

abbrev pub blank_page : ℕ → Option Id → TextScreen
blank_page line number = record { line = line; beside = None; number = number; codes = replicate 960 32 }

abbrev pub no_page : Sheet
no_page = record { done = []; page = blank_page 0 None; begun = false }

-- all pages so far
abbrev pub pages_so_far : Sheet → List TextScreen
pages_so_far s = if s.begun then s.done ++ s.page ∷ [] else s.done

abbrev pub page_begun : Sheet → ℕ → Option Id → Sheet
page_begun s line number = record { done = pages_so_far s; page = blank_page line number; begun = true }

abbrev pub then_page : Sheet → ℕ → Option Id → Result Sheet TextLineFault
then_page s line number = if nat_lt (length (pages_so_far s)) MOST_SHEET_PAGES then Ok (page_begun s line number) else Err Pages

-- a row before the first page begins one without a number
abbrev pub with_page : Sheet → ℕ → Sheet
with_page s line = if s.begun then s else page_begun s line None

-- the codes with the cells of a row
abbrev pub row_placed : List ℕ → ℕ → List ℕ → List ℕ
row_placed codes n text = (take (40 * n) codes ++ sheet_cells 40 text) ++ drop (40 * n + 40) codes

abbrev pub page_with : TextScreen → ℕ → List ℕ → TextScreen
page_with p n text = record { line = p.line; beside = p.beside; number = p.number; codes = row_placed p.codes n text }

-- rows above 23 are dropped
abbrev pub with_row : Sheet → ℕ → List ℕ → Sheet
with_row s n text = if nat_lt n 24 then record { done = s.done; page = page_with s.page n text; begun = s.begun } else s

abbrev pub with_row_by : Sheet → Option ℕ → List ℕ → Result Sheet TextLineFault
with_row_by s None text = Err Row
with_row_by s (Some n) text = Ok (with_row s n text)

-- the number is before the first comma (44), the text after it
abbrev pub row_added : Sheet → List ℕ → Result Sheet TextLineFault
row_added s rest = with_row_by s (row_number (before_first_byte 44 rest)) (after_first_byte 44 rest)

-- other lines don't count
abbrev pub line_added : Sheet → ℕ → List ℕ → Result Sheet TextLineFault
line_added s line text =
    if is_page_line text then then_page s line (number_id (drop 3 text))
    else if is_row_line text then row_added (with_page s line) (drop 3 text)
    else Ok s

-- The pages of a text.

-- 13 before a line end isn't text
abbrev pub without_return : List ℕ → List ℕ
without_return text = if get_or text (length text - 1) 0 == 13 then take (length text - 1) text else text

-- the text of a line that others follow, or none
abbrev pub text_of_line : List ℕ → List (List ℕ) → List ℕ
text_of_line text [] = text
text_of_line text (l ∷ ls) = without_return text

abbrev pub in_line : ℕ → Result Sheet TextLineFault → Result Sheet FaultyLine
in_line line (Err fault) = Err (record { line = line; fault = fault })
in_line line (Ok s) = Ok s

abbrev pub then_line : Result Sheet FaultyLine → ℕ → List ℕ → Result Sheet FaultyLine
then_line (Err fault) line text = Err fault
then_line (Ok s) line text = in_line line (line_added s line text)

-- after lines, the first of which has this number; a fault is that of the first line at fault
unfoldable pub then_lines : Result Sheet FaultyLine → ℕ → List (List ℕ) → Result Sheet FaultyLine
then_lines s line [] = s
then_lines s line (l ∷ ls) = then_lines (then_line s line (text_of_line l ls)) (line + 1) ls

abbrev pub sheet_pages : Result Sheet FaultyLine → Result (List TextScreen) FaultyLine
sheet_pages (Err fault) = Err fault
sheet_pages (Ok s) = Ok (pages_so_far s)

-- the screens of a text's lines
abbrev pub sheet_screens : List ℕ → Result (List TextScreen) FaultyLine
sheet_screens text = sheet_pages (then_lines (Ok no_page) 1 (parts_of 10 (after_byte_mark text)))
