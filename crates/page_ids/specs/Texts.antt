-- Which number, page or id a text spells.
use Rattle.std.specs.Prelude.{ℕ, ◌+◌, ◌-◌, ◌==◌, ◌&&◌, Bool, true, List, length, take, get_or, nat_lt, nat_le, if◌then◌else◌, Option, Some, None, Result, Ok, Err, ◌≡◌, ◌≤◌, decimal}
use Rattle.std.specs.List.{list_all}
use Rattle.std.specs.Char.{is_ascii_digit}
use Rattle.std.specs.Str.Parse.{digits_value}
use Rattle.page_ids.specs.declared.number.NumberFault.{NumberFault}
use Rattle.page_ids.specs.declared.number.NumberFault.TheVariants.{NotNumeral, AboveLimit}
use Rattle.page_ids.specs.Ids.{Id, IsFrameId, frame_text}
use Rattle.page_ids.specs.declared.limits.TheConstants.{MOST_PAGE}

-- decimal digits, at least one, and no leading zero (48 is `0`)
abbrev pub is_numeral : List ℕ → Bool
is_numeral text = nat_lt 0 (length text) && list_all is_ascii_digit text && (if get_or text 0 0 == 48 then length text == 1 else true)

-- the number of a text, up to the limit
abbrev pub number_in : ℕ → List ℕ → Result ℕ NumberFault
number_in most text =
    if is_numeral text
    then (if nat_lt most (digits_value 10 text) then Err AboveLimit else Ok (digits_value 10 text))
    else Err NotNumeral

abbrev pub number_or_none : Result ℕ NumberFault → Option ℕ
number_or_none (Ok n) = Some n
number_or_none (Err _) = None

-- the page of a text
abbrev pub page_in : List ℕ → Option ℕ
page_in text = number_or_none (number_in MOST_PAGE text)

-- the letter of a byte, `a` to `z`
abbrev pub letter_in : ℕ → Option ℕ
letter_in c = if nat_le 97 c && nat_le c 122 then Some c else None

abbrev pub id_with : Option ℕ → Option ℕ → Option Id
id_with (Some page) (Some letter) = Some (record { page = page; letter = letter })
id_with (Some page) None = None
id_with None letter = None

-- the id of a text: a page, and a letter as the last byte
abbrev pub id_in : List ℕ → Option Id
id_in text =
    if length text == 0
    then None
    else id_with (page_in (take (length text - 1) text)) (letter_in (get_or text (length text - 1) 0))

-- a digit of base 16: 48 is `0`, 55 + 10 is `A`
abbrev pub hex_digit : ℕ → ℕ
hex_digit d = if nat_lt d 10 then 48 + d else 55 + d

-- Numbers and ids are read from just their own texts.

-- what is read as a number is that number's text, and the text of a number is read as it; the limit is of 32 bits
pub record NumbersAreTexts : Type 0 where
  pub found : (most : ℕ) (text : List ℕ) (n : ℕ) → most ≤ 4294967295 → number_in most text ≡ Ok n → (n ≤ most) × (text ≡ decimal n)
  pub only : (most n : ℕ) → most ≤ 4294967295 → n ≤ most → number_in most (decimal n) ≡ Ok n

-- the same of ids
pub record IdsAreTexts : Type 0 where
  pub found : (text : List ℕ) (id : Id) → id_in text ≡ Some id → IsFrameId id × (text ≡ frame_text id)
  pub only : (id : Id) → IsFrameId id → id_in (frame_text id) ≡ Some id
