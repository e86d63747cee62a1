-- The letters of a screen in an address of edit.tf.
use Rattle.std.specs.Prelude.{ℕ, Bool, List, ◌++◌, Option, Some, None, ◌==◌, ◌&&◌, ◌||◌, codes, length, map, nat_le, take, if◌then◌else◌}
use Rattle.base64.specs.Engines.{url_safe_no_pad}
use Rattle.base64.specs.GeneralPurpose.{encode_of, decoded_of}
use Rattle.screen_forms.specs.Bits.{packed, stored_code, unpacked}

-- row 24, blank, and two bits after it
unfoldable pub blank_row_letters : List ℕ
blank_row_letters = codes "QIECBAgQIECBAgQIECBAgQIECBAgQIECBAgQIECBAgQIECA"

-- 24 rows of seven bits a cell, in base64 for addresses (RFC 4648, section 5), then row 24
abbrev pub link_letters : List ℕ → List ℕ
link_letters screen = encode_of url_safe_no_pad (packed screen) ++ blank_row_letters

-- `+` (43) is `-` (45), `/` (47) is `_` (95)
abbrev pub usual_letter : ℕ → ℕ
usual_letter c = if c == 43 then 45 else if c == 47 then 95 else c

-- 24 rows, or 25
abbrev pub has_link_size : ℕ → Bool
has_link_size size = size == 1120 || size == 1167

-- the codes of all 24 rows
abbrev pub whole_screen : List ℕ → Option (List ℕ)
whole_screen cells = if length cells == 960 then Some cells else None

abbrev pub cells_of : Option (List ℕ) → Option (List ℕ)
cells_of None = None
cells_of (Some bytes) = whole_screen (map stored_code (unpacked bytes))

-- the screen of the letters of 24 rows
abbrev pub rows_codes : List ℕ → Option (List ℕ)
rows_codes letters = cells_of (decoded_of url_safe_no_pad (map usual_letter letters))

-- the screen of the letters of an address
abbrev pub link_codes : List ℕ → Option (List ℕ)
link_codes letters = if has_link_size (length letters) then rows_codes (take 1120 letters) else None

-- a letter of base64 in either of its forms: `0` to `9` (48 to 57), `A` to `Z`, `a` to `z`, `-` (45), `_` (95), `+` (43), `/` (47)
abbrev pub is_link_letter : ℕ → Bool
is_link_letter c =
    nat_le 48 c && nat_le c 57 || nat_le 65 c && nat_le c 90 || nat_le 97 c && nat_le c 122 || c == 45 || c == 95 || c == 43 || c == 47
