-- Ids among the words of a text.
use Rattle.std.specs.Prelude.{ℕ, zero, suc, Bool, true, false, not, List, Option, Some, None, ◌+◌, ◌-◌, ◌*◌, ◌==◌, ◌&&◌, ◌||◌, drop, get_or, length, nat_le, take, if◌then◌else◌}
use Rattle.page_ids.specs.Ids.{Id}
use Rattle.page_ids.specs.Texts.{id_with, letter_in, page_in}

-- `A` to `Z` are 65 to 90
abbrev pub lower : ℕ → ℕ
lower b = if nat_le 65 b && nat_le b 90 then b + 32 else b

-- the id that a text spells, if its letter may be a capital
abbrev pub any_case_id : List ℕ → Option Id
any_case_id text =
    if length text == 0
    then None
    else id_with (page_in (take (length text - 1) text)) (letter_in (lower (get_or text (length text - 1) 0)))

-- What comes before an address.

-- a space (32), a tab (9), `,` (44), `;` (59), `=` (61), and `:` (58) unless `/` (47) follows, is between words
abbrev pub is_between_words : List ℕ → ℕ → Bool
is_between_words text at =
    get_or text at 0 == 32 || get_or text at 0 == 9 || get_or text at 0 == 44 || get_or text at 0 == 59 || get_or text at 0 == 61
    || get_or text at 0 == 58 && not (get_or text (at + 1) 0 == 47)

-- whether a byte belongs to a gap between words, or else to a word
abbrev pub belongs : Bool → List ℕ → ℕ → Bool
belongs true text at = is_between_words text at
belongs false text at = not (is_between_words text at)

-- where the gap, or else the word, begins that goes to the end of the first n bytes
unfoldable pub run_start : Bool → List ℕ → ℕ → ℕ
run_start gap text zero = 0
run_start gap text (suc n) = if belongs gap text n then run_start gap text n else suc n

abbrev pub bytes_between : List ℕ → ℕ → ℕ → List ℕ
bytes_between text from to = take (to - from) (drop from text)

abbrev pub last_word_to : List ℕ → ℕ → List ℕ
last_word_to text end = bytes_between text (run_start false text end) end

-- the word before the one that goes to the end, which begins the address
abbrev pub word_before : List ℕ → List ℕ
word_before text = last_word_to text (run_start true text (run_start false text (length text)))

-- The number of a teletext page.

abbrev pub is_digit_byte : ℕ → Bool
is_digit_byte b = nat_le 48 b && nat_le b 57

-- the subpages 00 and 01 are `a` (97), 02 is `b`, 26 is `z`
abbrev pub subpage_letter : ℕ → Option ℕ
subpage_letter n = if n == 0 then Some 97 else if nat_le n 26 then Some (96 + n) else None

abbrev pub two_digits : ℕ → ℕ → Option ℕ
two_digits a b = if is_digit_byte a && is_digit_byte b then subpage_letter ((a - 48) * 10 + (b - 48)) else None

-- three digits of the page, and two of the subpage or none
abbrev pub number_id : List ℕ → Option Id
number_id text =
    if length text == 3 then id_with (page_in text) (Some 97)
    else if length text == 5 then id_with (page_in (take 3 text)) (two_digits (get_or text 3 0) (get_or text 4 0))
    else None
