-- Addresses of edit.tf among the lines of a text.
use Rattle.std.specs.Prelude.{ℕ, Bool, List, [], ◌∷◌, Option, Some, None, Result, Ok, Err, ◌+◌, ◌==◌, ◌&&◌, ◌||◌, drop, get_or, nat_le, take, if◌then◌else◌}
use Rattle.std.specs.Option.{is_some}
use Rattle.page_ids.specs.Ids.{Id}
use Rattle.page_ids.specs.Parts.{parts_of}
use Rattle.screen_forms.specs.Links.{is_link_letter, link_codes}
use Rattle.screen_forms.specs.Words.{any_case_id, is_digit_byte, number_id, word_before}
use Rattle.screen_forms.specs.declared.text_screens.TextScreen.{TextScreen}
use Rattle.screen_forms.specs.declared.text_screens.TextLineFault.{TextLineFault}
use Rattle.screen_forms.specs.declared.text_screens.TextLineFault.TheVariants.{Letters, Two}
use Rattle.screen_forms.specs.declared.text_screens.FaultyLine.{FaultyLine}
use Rattle.screen_forms.specs.TextScreens.{after_byte_mark}

-- `A` to `F` are 65 to 70, `a` to `f` 97 to 102
abbrev pub is_hex_digit : ℕ → Bool
is_hex_digit b = is_digit_byte b || nat_le 65 b && nat_le b 70 || nat_le 97 b && nat_le b 102

-- what comes before the letters: `#` (35), a hex digit and `:` (58)
abbrev pub is_mark : List ℕ → Bool
is_mark text = get_or text 0 0 == 35 && is_hex_digit (get_or text 1 0) && get_or text 2 0 == 58

-- where the first one is; the text begins at this place
unfoldable pub mark_from : ℕ → List ℕ → Option ℕ
mark_from at [] = None
mark_from at (c ∷ cs) = if is_mark (c ∷ cs) then Some at else mark_from (at + 1) cs

abbrev pub address_at : List ℕ → Option ℕ
address_at text = mark_from 0 text

-- where the letters end that begin a text
unfoldable pub letters_from : ℕ → List ℕ → ℕ
letters_from at [] = at
letters_from at (c ∷ cs) = if is_link_letter c then letters_from (at + 1) cs else at

abbrev pub first_letters : List ℕ → List ℕ
first_letters text = take (letters_from 0 text) text

abbrev pub after_letters : List ℕ → List ℕ
after_letters text = drop (letters_from 0 text) text

-- a field `PN=`: 80, 78, 61
abbrev pub is_number_field : List ℕ → Bool
is_number_field text = get_or text 0 0 == 80 && get_or text 1 0 == 78 && get_or text 2 0 == 61

abbrev pub field_id : List ℕ → Option Id
field_id field = number_id (first_letters (drop 3 field))

-- the first page number among fields
unfoldable pub number_among : List (List ℕ) → Option Id
number_among [] = None
number_among (f ∷ fs) = if is_number_field f then field_id f else number_among fs

-- the number in the fields between colons (58)
abbrev pub field_number : List ℕ → Option Id
field_number text = number_among (parts_of 58 text)

-- The screen of a line.

abbrev pub linked_by : ℕ → List ℕ → List ℕ → Option (List ℕ) → Result (Option TextScreen) TextLineFault
linked_by line before after None = Err (Letters (letters_from 0 after))
linked_by line before after (Some codes) =
    Ok (Some (record { line = line; beside = any_case_id (word_before before); number = field_number (after_letters after); codes = codes }))

-- before and after a mark
abbrev pub linked_screen : ℕ → List ℕ → List ℕ → Result (Option TextScreen) TextLineFault
linked_screen line before after =
    if is_some (address_at after) then Err Two else linked_by line before after (link_codes (first_letters after))

abbrev pub linked_at : ℕ → List ℕ → Option ℕ → Result (Option TextScreen) TextLineFault
linked_at line text None = Ok None
linked_at line text (Some at) = linked_screen line (take at text) (drop (at + 3) text)

-- the screen of a line, if it has an address
abbrev pub line_screen : ℕ → List ℕ → Result (Option TextScreen) TextLineFault
line_screen line text = linked_at line text (address_at text)

-- The screens of a text.

abbrev pub onto_screens : Option TextScreen → Result (List TextScreen) FaultyLine → Result (List TextScreen) FaultyLine
onto_screens s (Err fault) = Err fault
onto_screens None (Ok more) = Ok more
onto_screens (Some s) (Ok more) = Ok (s ∷ more)

abbrev pub then_screens : ℕ → Result (Option TextScreen) TextLineFault → Result (List TextScreen) FaultyLine → Result (List TextScreen) FaultyLine
then_screens line (Err fault) more = Err (record { line = line; fault = fault })
then_screens line (Ok s) more = onto_screens s more

-- those of lines, the first of which has this number; a fault is that of the first line at fault
unfoldable pub lines_screens : ℕ → List (List ℕ) → Result (List TextScreen) FaultyLine
lines_screens line [] = Ok []
lines_screens line (l ∷ ls) = then_screens line (line_screen line l) (lines_screens (line + 1) ls)

-- those of a text's lines, between line ends (10)
abbrev pub linked_screens : List ℕ → Result (List TextScreen) FaultyLine
linked_screens text = lines_screens 1 (parts_of 10 (after_byte_mark text))
