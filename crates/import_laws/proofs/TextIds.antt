-- The screens of a text have ids, if they have any, and codes that cells can hold.
use Rattle.std.proofs.Common.{◌≡◌, ◌<◌, ◌+◌, ℕ, nat_lt, List, [], ◌∷◌, length, drop, take, Option, Some, None, Result, Ok, Err, refl, inl, inr}
use Rattle.std.proofs.lemmas.Bool.{cases_Bool}
use Rattle.std.proofs.lemmas.List.Elements.{All-append, All-cons, All-nil}
use Rattle.std.specs.List.{All}
use Rattle.std.specs.Option.{is_some}
use Rattle.page_ids.specs.Ids.{Id}
use Rattle.page_ids.specs.Parts.{parts_of}
use Rattle.screen_forms.specs.Addresses.{address_at, first_letters, after_letters, is_number_field, number_among, linked_by, linked_screen, linked_at, line_screen, onto_screens, then_screens, lines_screens, linked_screens}
use Rattle.screen_forms.specs.Laws.{IsSavedScreen}
use Rattle.screen_forms.specs.Links.{link_codes}
use Rattle.screen_forms.specs.Sheets.{Sheet, after_first_byte, before_first_byte, text_of_line, in_line, is_page_line, is_row_line, line_added, no_page, page_begun, pages_so_far, row_number, sheet_pages, sheet_screens, then_lines, then_page, with_page, with_row, with_row_by}
use Rattle.screen_forms.specs.TextScreens.{after_byte_mark}
use Rattle.screen_forms.specs.Words.{number_id, word_before}
use Rattle.screen_forms.specs.declared.sheets.TheConstants.{MOST_SHEET_PAGES}
use Rattle.screen_forms.specs.declared.text_screens.TextScreen.{TextScreen}
use Rattle.screen_forms.specs.declared.text_screens.FaultyLine.{FaultyLine}
use Rattle.screen_forms.specs.declared.text_screens.TextLineFault.{TextLineFault}
use Rattle.screen_forms.proofs.Letters.{are}
use Rattle.screen_forms.proofs.PagesAre.{pages}
use Rattle.import_laws.proofs.HeadIds.{IsNamed, any_case_is, number_is}

-- the ids of a screen of a text
abbrev IsNumbered : TextScreen → Type 0
IsNumbered s = IsNamed s.beside × IsNamed s.number

abbrev pub IsText : TextScreen → Type 0
IsText s = IsNumbered s × IsSavedScreen s.codes

abbrev AreTexts : List TextScreen → Type 0
AreTexts screens = All IsText screens

-- if they are read
abbrev pub AreTextsOr : Result (List TextScreen) FaultyLine → Type 0
AreTextsOr (Err fault) = Unit {0}
AreTextsOr (Ok screens) = AreTexts screens

-- TTI.

record IsNumberedSheet (s : Sheet) : Type 0 where
  done : All IsNumbered s.done
  page : IsNumbered s.page

abbrev IsSheetOr : Result Sheet TextLineFault → Type 0
IsSheetOr (Err fault) = Unit {0}
IsSheetOr (Ok s) = IsNumberedSheet s

abbrev IsSheetRead : Result Sheet FaultyLine → Type 0
IsSheetRead (Err fault) = Unit {0}
IsSheetRead (Ok s) = IsNumberedSheet s

pages_are : (s : Sheet) → IsNumberedSheet s → All IsNumbered (pages_so_far s)
pages_are s is = elim (cases_Bool s.begun) [
  | inl begun ↦ rw begun (All-append IsNumbered s.done (s.page ∷ []) is.done (All-cons IsNumbered s.page [] is.page (All-nil IsNumbered)))
  | inr not ↦ rw not is.done
]

begun_is : (s : Sheet) (line : ℕ) (number : Option Id) → IsNumberedSheet s → IsNamed number → IsNumberedSheet (page_begun s line number)
begun_is s line number is named = record { done = pages_are s is; page = (tt, named) }

with_page_is : (s : Sheet) (line : ℕ) → IsNumberedSheet s → IsNumberedSheet (with_page s line)
with_page_is s line is = elim (cases_Bool s.begun) [
  | inl begun ↦ rw begun record { done = is.done; page = is.page }
  | inr not ↦ rw not record { done = is.done; page = (tt, tt) }
]

with_row_is : (s : Sheet) (n : ℕ) (text : List ℕ) → IsNumberedSheet s → IsNumberedSheet (with_row s n text)
with_row_is s n text is = elim (cases_Bool (nat_lt n 24)) [
  | inl on ↦ rw on record { done = is.done; page = is.page }
  | inr off ↦ rw off is
]

row_by_is : (s : Sheet) (n : Option ℕ) (text : List ℕ) → IsNumberedSheet s → IsSheetOr (with_row_by s n text)
row_by_is s None text is = tt
row_by_is s (Some n) text is = with_row_is s n text is

then_page_is : (s : Sheet) (line : ℕ) (number : Option Id) → IsNumberedSheet s → IsNamed number → IsSheetOr (then_page s line number)
then_page_is s line number is named = elim (cases_Bool (nat_lt (length (pages_so_far s)) MOST_SHEET_PAGES)) [
  | inl room ↦ rw room (begun_is s line number is named)
  | inr full ↦ rw full tt
]

line_is : (s : Sheet) (line : ℕ) (text : List ℕ) → IsNumberedSheet s → IsSheetOr (line_added s line text)
line_is s line text is = elim (cases_Bool (is_page_line text)) [
  | inl page ↦ rw page (then_page_is s line (number_id (drop 3 text)) is (number_is (drop 3 text)))
  | inr other ↦ elim (cases_Bool (is_row_line text)) [
    | inl row ↦ rw (other, row) (row_by_is (with_page s line) (row_number (before_first_byte 44 (drop 3 text))) (after_first_byte 44 (drop 3 text)) (with_page_is s line is))
    | inr not ↦ rw (other, not) is
  ]
]

in_line_is : (line : ℕ) (r : Result Sheet TextLineFault) → IsSheetOr r → IsSheetRead (in_line line r)
in_line_is line (Ok s) is = is
in_line_is line (Err fault) is = tt

lines_are : (r : Result Sheet FaultyLine) (line : ℕ) (ls : List (List ℕ)) → IsSheetRead r → IsSheetRead (then_lines r line ls)
unfolding then_lines
lines_are r line [] is = is
lines_are (Err fault) line (l ∷ ls) is = lines_are (Err fault) (line + 1) ls is
lines_are (Ok s) line (l ∷ ls) is =
    let text = text_of_line l ls in
    lines_are (in_line line (line_added s line text)) (line + 1) ls (in_line_is line (line_added s line text) (line_is s line text is))

-- the pages that are read, if they are
abbrev AreNumberedOr : Result (List TextScreen) FaultyLine → Type 0
AreNumberedOr (Err fault) = Unit {0}
AreNumberedOr (Ok screens) = All IsNumbered screens

sheet_is : (r : Result Sheet FaultyLine) → IsSheetRead r → AreNumberedOr (sheet_pages r)
sheet_is (Err fault) is = tt
sheet_is (Ok s) is = pages_are s is

numbered : (text : List ℕ) → AreNumberedOr (sheet_screens text)
numbered text =
    let lines = parts_of 10 (after_byte_mark text) in
    sheet_is (then_lines (Ok no_page) 1 lines) (lines_are (Ok no_page) 1 lines record { done = All-nil IsNumbered; page = (tt, tt) })

pub sheets_are : (text : List ℕ) → All (λ b. b < 256) text → AreTextsOr (sheet_screens text)
sheets_are text bytes = by (sheet_screens text) refl (numbered text) where
  by : (r : Result (List TextScreen) FaultyLine) → sheet_screens text ≡ r → AreNumberedOr r → AreTextsOr r
  by (Err fault) e have = tt
  by (Ok screens) e have = let saved = pages text screens bytes e in λ k d lt. (have k d lt, saved k d lt)

-- Addresses.

among_is : (fields : List (List ℕ)) → IsNamed (number_among fields)
unfolding number_among
among_is [] = tt
among_is (f ∷ fs) = elim (cases_Bool (is_number_field f)) [
  | inl is ↦ rw is (number_is (first_letters (drop 3 f)))
  | inr not ↦ rw not (among_is fs)
]

abbrev IsScreenOr : Result (Option TextScreen) TextLineFault → Type 0
IsScreenOr (Err fault) = Unit {0}
IsScreenOr (Ok None) = Unit {0}
IsScreenOr (Ok (Some s)) = IsText s

linked_by_is : (line : ℕ) (before after : List ℕ) → IsScreenOr (linked_by line before after (link_codes (first_letters after)))
linked_by_is line before after = by (link_codes (first_letters after)) refl where
  by : (o : Option (List ℕ)) → link_codes (first_letters after) ≡ o → IsScreenOr (linked_by line before after o)
  by None e = tt
  by (Some codes) e = ((any_case_is (word_before before), among_is (parts_of 58 (after_letters after))), are (first_letters after) codes e)

linked_is : (line : ℕ) (before after : List ℕ) → IsScreenOr (linked_screen line before after)
linked_is line before after = elim (cases_Bool (is_some (address_at after))) [
  | inl two ↦ rw two tt
  | inr one ↦ rw one (linked_by_is line before after)
]

at_is : (line : ℕ) (text : List ℕ) (o : Option ℕ) → IsScreenOr (linked_at line text o)
at_is line text None = tt
at_is line text (Some at) = linked_is line (take at text) (drop (at + 3) text)

onto_is : (s : Option TextScreen) (more : Result (List TextScreen) FaultyLine) → IsScreenOr (Ok s) → AreTextsOr more → AreTextsOr (onto_screens s more)
onto_is s (Err fault) one is = tt
onto_is None (Ok more) one is = is
onto_is (Some s) (Ok more) one is = All-cons IsText s more one is

then_is : (line : ℕ) (r : Result (Option TextScreen) TextLineFault) (more : Result (List TextScreen) FaultyLine) → IsScreenOr r → AreTextsOr more → AreTextsOr (then_screens line r more)
then_is line (Err fault) more one is = tt
then_is line (Ok s) more one is = onto_is s more one is

lines_linked : (line : ℕ) (ls : List (List ℕ)) → AreTextsOr (lines_screens line ls)
unfolding lines_screens
lines_linked line [] = All-nil IsText
lines_linked line (l ∷ ls) = then_is line (line_screen line l) (lines_screens (line + 1) ls) (at_is line l (address_at l)) (lines_linked (line + 1) ls)

pub links_are : (text : List ℕ) → AreTextsOr (linked_screens text)
links_are text = lines_linked 1 (parts_of 10 (after_byte_mark text))
