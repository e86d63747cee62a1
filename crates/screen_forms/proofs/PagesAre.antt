-- What a sheet's pages hold is screens.
use Rattle.std.proofs.Common.{◌≡◌, ◌<◌, ◌≤◌, ◌+◌, ◌-◌, ◌*◌, ◌==◌, ℕ, zero, suc, Bool, true, false, List, [], ◌∷◌, ◌++◌, Option, Some, None, Result, Ok, Err, refl, subst, drop, get_or, length, replicate, take, nat_lt, arith}
use Rattle.std.proofs.lemmas.Bool.Decides.{nat_tests}
use Rattle.std.proofs.lemmas.List.{length-append, length-drop, length-replicate, length-take-le}
use Rattle.std.proofs.lemmas.List.Elements.{All-append, All-cons, All-drop, All-head, All-nil, All-tail, All-take}
use Rattle.std.specs.List.{All, onto_first}
use Rattle.page_ids.specs.Ids.{Id}
use Rattle.page_ids.specs.Parts.{parts_of}
use Rattle.terminal_codes.specs.Writes.{IsCode}
use Rattle.screen_forms.specs.Bits.{stored_code}
use Rattle.screen_forms.specs.Laws.{IsSavedScreen, SheetsAreScreens}
use Rattle.screen_forms.specs.Sheets.{Sheet, after_first_byte, after_cell, before_first_byte, blank_page, text_of_line, first_cell, in_line, is_escape, is_page_line, is_row_line, line_added, no_page, page_begun, pages_so_far, row_number, row_placed, sheet_cells, sheet_code, sheet_pages, then_lines, then_page, with_page, with_row, with_row_by, without_return}
use Rattle.screen_forms.specs.TextScreens.{after_byte_mark, has_byte_mark}
use Rattle.screen_forms.specs.Words.{number_id}
use Rattle.screen_forms.specs.declared.sheets.TheConstants.{MOST_SHEET_PAGES}
use Rattle.screen_forms.specs.declared.text_screens.TextScreen.{TextScreen}
use Rattle.screen_forms.specs.declared.text_screens.FaultyLine.{FaultyLine}
use Rattle.screen_forms.specs.declared.text_screens.TextLineFault.{TextLineFault}

abbrev IsByte : ℕ → Type 0
IsByte b = b < 256

abbrev AreBytes : List ℕ → Type 0
AreBytes bs = All IsByte bs

byte_at : (bs : List ℕ) → AreBytes bs → (i : ℕ) → get_or bs i 0 < 256
byte_at [] are i = omega arith
byte_at (b ∷ bs) are zero = All-head IsByte b bs are
byte_at (b ∷ bs) are (suc i) = byte_at bs (All-tail IsByte b bs are) i

-- Cells.

pub stored_is_code : (b : ℕ) → IsByte b → IsCode (stored_code b)
stored_is_code b lt = low (nat_lt b 32) refl where
  high : nat_lt b 32 ≡ false → (c : Bool) → nat_lt b 160 ≡ c → IsCode (stored_code b)
  high not_low true e = rw (not_low, e) (grind (arith, nat_tests), grind (arith, nat_tests))
  high not_low false e = rw (not_low, e) (grind (arith, nat_tests, lt), grind (arith, nat_tests, lt))

  low : (c : Bool) → nat_lt b 32 ≡ c → IsCode (stored_code b)
  low true e = rw e (grind (arith, nat_tests), grind (arith, nat_tests))
  low false e = high e (nat_lt b 160) refl

sheet_is_code : (b : ℕ) → IsByte b → IsCode (sheet_code b)
sheet_is_code b lt = by (b == 16) refl where
  by : (c : Bool) → (b == 16) ≡ c → IsCode (sheet_code b)
  by true e = rw e (omega arith, omega arith)
  by false e = rw e (stored_is_code b lt)

first_is_code : (text : List ℕ) → AreBytes text → IsCode (first_cell text)
first_is_code text are = by (length text == 0) refl where
  some : (length text == 0) ≡ false → (c : Bool) → is_escape text ≡ c → IsCode (first_cell text)
  some e true f = rw (e, f) (grind (arith, nat_tests, f), grind (arith, nat_tests, f))
  some e false f = rw (e, f) (sheet_is_code (get_or text 0 0) (byte_at text are 0))

  by : (c : Bool) → (length text == 0) ≡ c → IsCode (first_cell text)
  by true e = rw e (omega arith, omega arith)
  by false e = some e (is_escape text) refl

after_bytes : (text : List ℕ) → AreBytes text → AreBytes (after_cell text)
after_bytes text are = by (is_escape text) refl where
  by : (c : Bool) → is_escape text ≡ c → AreBytes (after_cell text)
  by true e = rw e (All-drop IsByte 2 text are)
  by false e = rw e (All-drop IsByte 1 text are)

cells_are : (n : ℕ) (text : List ℕ) → AreBytes text → All IsCode (sheet_cells n text)
unfolding sheet_cells
cells_are zero text are = All-nil IsCode
cells_are (suc n) text are =
    All-cons IsCode (first_cell text) (sheet_cells n (after_cell text)) (first_is_code text are) (cells_are n (after_cell text) (after_bytes text are))

pub length-sheet_cells : (n : ℕ) (text : List ℕ) → length (sheet_cells n text) ≡ n
unfolding sheet_cells
length-sheet_cells zero text = refl
length-sheet_cells (suc n) text = let more = length-sheet_cells n (after_cell text) in omega (arith, more)

placed_saved : (codes : List ℕ) (n : ℕ) (text : List ℕ) → n < 24 → IsSavedScreen codes → AreBytes text → IsSavedScreen (row_placed codes n text)
placed_saved codes n text lt saved are =
    let before = take (40 * n) codes in
    let row = sheet_cells 40 text in
    let after = drop (40 * n + 40) codes in
    let fits : 40 * n ≤ length codes = omega (arith, lt, saved.cells) in
    record {
      cells = omega (arith, lt, saved.cells, length-append (before ++ row) after, length-append before row, length-take-le (40 * n) codes fits, length-sheet_cells 40 text, length-drop (40 * n + 40) codes);
      codes = All-append IsCode (before ++ row) after (All-append IsCode before row (All-take IsCode (40 * n) codes saved.codes) (cells_are 40 text are)) (All-drop IsCode (40 * n + 40) codes saved.codes);
    }

-- Pages.

abbrev IsSavedText : TextScreen → Type 0
IsSavedText p = IsSavedScreen p.codes

record IsSavedSheet (s : Sheet) : Type 0 where
  done : All IsSavedText s.done
  page : IsSavedText s.page

blanks : (n : ℕ) → All IsCode (replicate n 32)
blanks zero = All-nil IsCode
blanks (suc n) = All-cons IsCode 32 (replicate n 32) (omega arith, omega arith) (blanks n)

blank_saved : (line : ℕ) (number : Option Id) → IsSavedText (blank_page line number)
blank_saved line number = record { cells = length-replicate {A = ℕ} 960 32; codes = blanks 960 }

pages_saved : (s : Sheet) → IsSavedSheet s → All IsSavedText (pages_so_far s)
pages_saved s is = by s.begun refl where
  by : (b : Bool) → s.begun ≡ b → All IsSavedText (pages_so_far s)
  by true e = rw e (All-append IsSavedText s.done (s.page ∷ []) is.done (All-cons IsSavedText s.page [] is.page (All-nil IsSavedText)))
  by false e = rw e is.done

begun_saved : (s : Sheet) (line : ℕ) (number : Option Id) → IsSavedSheet s → IsSavedSheet (page_begun s line number)
begun_saved s line number is = record { done = pages_saved s is; page = blank_saved line number }

with_page_saved : (s : Sheet) (line : ℕ) → IsSavedSheet s → IsSavedSheet (with_page s line)
with_page_saved s line is = by s.begun refl where
  by : (b : Bool) → s.begun ≡ b → IsSavedSheet (with_page s line)
  by true e = rw e record { done = is.done; page = is.page }
  by false e = rw e record { done = is.done; page = blank_saved line None }

with_row_saved : (s : Sheet) (n : ℕ) (text : List ℕ) → AreBytes text → IsSavedSheet s → IsSavedSheet (with_row s n text)
with_row_saved s n text are is = by (nat_lt n 24) refl where
  by : (b : Bool) → nat_lt n 24 ≡ b → IsSavedSheet (with_row s n text)
  by true e = rw e record { done = is.done; page = placed_saved s.page.codes n text (grind (arith, nat_tests, e)) is.page are }
  by false e = rw e is

-- what is read is such a sheet, or a fault
abbrev IsSavedResult : Result Sheet TextLineFault → Type 0
IsSavedResult (Ok s) = IsSavedSheet s
IsSavedResult (Err fault) = Unit {0}

abbrev IsSavedAnswer : Result Sheet FaultyLine → Type 0
IsSavedAnswer (Ok s) = IsSavedSheet s
IsSavedAnswer (Err fault) = Unit {0}

then_page_saved : (s : Sheet) (line : ℕ) (number : Option Id) → IsSavedSheet s → IsSavedResult (then_page s line number)
then_page_saved s line number is = by (nat_lt (length (pages_so_far s)) MOST_SHEET_PAGES) refl where
  by : (b : Bool) → nat_lt (length (pages_so_far s)) MOST_SHEET_PAGES ≡ b → IsSavedResult (then_page s line number)
  by true e = rw e (begun_saved s line number is)
  by false e = rw e tt

row_by_saved : (s : Sheet) (n : Option ℕ) (text : List ℕ) → AreBytes text → IsSavedSheet s → IsSavedResult (with_row_by s n text)
row_by_saved s None text are is = tt
row_by_saved s (Some n) text are is = with_row_saved s n text are is

line_saved : (s : Sheet) (line : ℕ) (text : List ℕ) → AreBytes text → IsSavedSheet s → IsSavedResult (line_added s line text)
line_saved s line text are is = by (is_page_line text) refl where
  other : is_page_line text ≡ false → (b : Bool) → is_row_line text ≡ b → IsSavedResult (line_added s line text)
  other e true f =
      let rest = drop 3 text in
      let bytes = All-drop IsByte 3 text are in
      rw (e, f) (row_by_saved (with_page s line) (row_number (before_first_byte 44 rest)) (after_first_byte 44 rest) (All-drop IsByte _ rest bytes) (with_page_saved s line is))
  other e false f = rw (e, f) is

  by : (b : Bool) → is_page_line text ≡ b → IsSavedResult (line_added s line text)
  by true e = rw e (then_page_saved s line (number_id (drop 3 text)) is)
  by false e = other e (is_row_line text) refl

in_line_saved : (line : ℕ) (r : Result Sheet TextLineFault) → IsSavedResult r → IsSavedAnswer (in_line line r)
in_line_saved line (Ok s) is = is
in_line_saved line (Err fault) is = tt

ended_bytes : (l : List ℕ) (ls : List (List ℕ)) → AreBytes l → AreBytes (text_of_line l ls)
ended_bytes l [] are = are
ended_bytes l (m ∷ ms) are = by (get_or l (length l - 1) 0 == 13) refl where
  by : (b : Bool) → (get_or l (length l - 1) 0 == 13) ≡ b → AreBytes (without_return l)
  by true e = rw e (All-take IsByte (length l - 1) l are)
  by false e = rw e are

lines_saved : (r : Result Sheet FaultyLine) (line : ℕ) (ls : List (List ℕ)) → All AreBytes ls → IsSavedAnswer r → IsSavedAnswer (then_lines r line ls)
unfolding then_lines
lines_saved r line [] are is = is
lines_saved (Err fault) line (l ∷ ls) are is = lines_saved (Err fault) (line + 1) ls (All-tail AreBytes l ls are) is
lines_saved (Ok s) line (l ∷ ls) are is =
    let text = text_of_line l ls in
    let bytes = ended_bytes l ls (All-head AreBytes l ls are) in
    lines_saved (in_line line (line_added s line text)) (line + 1) ls (All-tail AreBytes l ls are) (in_line_saved line (line_added s line text) (line_saved s line text bytes is))

-- Texts.

onto_bytes : (b : ℕ) (parts : List (List ℕ)) → IsByte b → All AreBytes parts → All AreBytes (onto_first b parts)
onto_bytes b [] lt are = All-cons AreBytes (b ∷ []) [] (All-cons IsByte b [] lt (All-nil IsByte)) (All-nil AreBytes)
onto_bytes b (p ∷ ps) lt are =
    All-cons AreBytes (b ∷ p) ps (All-cons IsByte b p lt (All-head AreBytes p ps are)) (All-tail AreBytes p ps are)

part_bytes : (b : ℕ) (bs : List ℕ) → IsByte b → All AreBytes (parts_of 10 bs) → All AreBytes (parts_of 10 (b ∷ bs))
part_bytes b bs lt more = by (b == 10) refl where
  by : (c : Bool) → (b == 10) ≡ c → All AreBytes (parts_of 10 (b ∷ bs))
  by true e = rw e (All-cons AreBytes [] (parts_of 10 bs) (All-nil IsByte) more)
  by false e = rw e (onto_bytes b (parts_of 10 bs) lt more)

parts_bytes : (text : List ℕ) → AreBytes text → All AreBytes (parts_of 10 text)
parts_bytes [] are = All-cons AreBytes [] [] (All-nil IsByte) (All-nil AreBytes)
parts_bytes (b ∷ bs) are = part_bytes b bs (All-head IsByte b bs are) (parts_bytes bs (All-tail IsByte b bs are))

marked_bytes : (text : List ℕ) → AreBytes text → AreBytes (after_byte_mark text)
marked_bytes text are = by (has_byte_mark text) refl where
  by : (b : Bool) → has_byte_mark text ≡ b → AreBytes (after_byte_mark text)
  by true e = rw e (All-drop IsByte 3 text are)
  by false e = rw e are

ok_is : {A B : Type 0} (x y : A) → (let r : Result A B = Ok x in r) ≡ Ok y → x ≡ y
ok_is x y e = cc

pages_are : (r : Result Sheet FaultyLine) (screens : List TextScreen) → IsSavedAnswer r → sheet_pages r ≡ Ok screens → All IsSavedText screens
pages_are (Err fault) screens is e = absurd cc
pages_are (Ok s) screens is e = subst (All IsSavedText) (ok_is {B = FaultyLine} (pages_so_far s) screens e) (pages_saved s is)

none_saved : IsSavedSheet no_page
none_saved = record { done = All-nil IsSavedText; page = blank_saved 0 None }

pub pages : SheetsAreScreens
pages text screens are e =
    let lines = parts_of 10 (after_byte_mark text) in
    pages_are (then_lines (Ok no_page) 1 lines) screens (lines_saved (Ok no_page) 1 lines (parts_bytes (after_byte_mark text) (marked_bytes text are)) none_saved) e
