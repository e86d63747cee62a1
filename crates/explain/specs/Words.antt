-- The words of a list, in any case of letters.
use Rattle.std.specs.Prelude.{◌≡◌, ℕ, ◌<◌, List, [], length, map, get_or, ◌==◌, ◌&&◌, ◌||◌, Bool, true, false, ◌∷◌, if◌then◌else◌}
use Rattle.std.specs.Char.{to_ascii_lowercase, is_ascii_digit}
use Rattle.explain.specs.Listed.{listed_words}
use Rattle.std.specs.List.{flat_map, slice_split}

-- the letters of a text as small ones
abbrev pub lower : List ℕ → List ℕ
lower text = map to_ascii_lowercase text

-- the same word, whatever the case of its letters
abbrev pub IsSame : List ℕ → List ℕ → Type 0
IsSame name word = lower name ≡ lower word

-- one of the names is the word
abbrev pub IsAmong : List (List ℕ) → List ℕ → Type 0
IsAmong names word = (place : ℕ) × (place < length names) × IsSame (get_or names place []) word

-- the word has a text
abbrev pub IsListed : List ℕ → Type 0
IsListed word = IsAmong listed_words word

-- The form of a cursor, in any case of letters.

-- the mark of an escape that is pending, or may be: + or ?
abbrev pub is_mark : ℕ → Bool
is_mark b = (b == 43) || (b == 63)

-- digits, and perhaps a mark after them
abbrev pub is_numbered_end : List ℕ → Bool
is_numbered_end [] = true
is_numbered_end (b ∷ []) = is_mark b || is_ascii_digit b
is_numbered_end (b ∷ c ∷ rest) = is_ascii_digit b && is_numbered_end (c ∷ rest)

-- c or s
abbrev pub is_kind : ℕ → Bool
is_kind b = (to_ascii_lowercase b == 99) || (to_ascii_lowercase b == 115)

-- c or s and a number, and perhaps a mark
abbrev pub is_numbered : List ℕ → Bool
is_numbered [] = false
is_numbered (b ∷ []) = false
is_numbered (b ∷ c ∷ rest) = is_kind b && is_ascii_digit c && is_numbered_end rest

-- the three letters of any
abbrev pub spells_any : ℕ → ℕ → ℕ → Bool
spells_any a n y = (to_ascii_lowercase a == 97) && (to_ascii_lowercase n == 110) && (to_ascii_lowercase y == 121)

-- any, and perhaps a mark
abbrev pub is_any : List ℕ → Bool
is_any (a ∷ n ∷ y ∷ []) = spells_any a n y
is_any (a ∷ n ∷ y ∷ mark ∷ []) = spells_any a n y && is_mark mark
is_any _ = false

abbrev pub is_cursor : List ℕ → Bool
is_cursor word = is_numbered word || is_any word

-- The words at the beginnings of a text's lines.

-- a line up to its first two blanks
abbrev pub before_gap : List ℕ → List ℕ
before_gap [] = []
before_gap (b ∷ []) = b ∷ []
before_gap (b ∷ c ∷ rest) = if (b == 32) && (c == 32) then [] else b ∷ before_gap (c ∷ rest)

-- a text without the blank that it begins with
abbrev pub without_blank : List ℕ → List ℕ
without_blank [] = []
without_blank (b ∷ rest) = if b == 32 then rest else b ∷ rest

-- the words of a line, which commas part; an empty line has none
abbrev pub names_in_line : List ℕ → List (List ℕ)
names_in_line [] = []
names_in_line (b ∷ rest) = map without_blank (slice_split (λ c. c == 44) (before_gap (b ∷ rest)))

-- the words of all lines
abbrev pub names_in_lines : List ℕ → List (List ℕ)
names_in_lines text = flat_map names_in_line (slice_split (λ b. b == 10) text)
