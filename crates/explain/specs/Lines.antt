-- The words in a line.
use Rattle.std.specs.Prelude.{◌≡◌, ℕ, ◌<◌, ◌-◌, List, [], ◌∷◌, length, drop, get_or, slice_get, eqb, ◌==◌, ◌&&◌, ◌||◌, not, Bool, true, false, Option, Some, None}
use Rattle.std.specs.Char.{is_ascii_digit, is_ascii_alphabetic, is_ascii_uppercase}
use Rattle.std.specs.List.{starts_with}
use Rattle.explain.specs.declared.line.WordKind.{WordKind}
use Rattle.explain.specs.declared.line.WordKind.TheVariants.{Code, Capital, Any}

-- digits and letters
abbrev pub is_word_byte : ℕ → Bool
is_word_byte b = is_ascii_digit b || is_ascii_alphabetic b

-- there is no byte, or it is of no word
abbrev pub ends_word : Option ℕ → Bool
ends_word None = true
ends_word (Some b) = not (is_word_byte b)

-- no word has a byte of the line at this place
abbrev pub is_edge : List ℕ → ℕ → Bool
is_edge line at = ends_word (slice_get line at)

-- nor before it
abbrev pub is_start : List ℕ → ℕ → Bool
is_start line at = (at == 0) || is_edge line (at - 1)

-- the line has the name at this place, as a whole word
abbrev pub is_word_at : List ℕ → ℕ → List ℕ → Bool
is_word_at line at name =
    is_start line at && (starts_with eqb (drop at line) name && is_edge (drop at line) (length name))

-- a capital letter and a digit come first
abbrev pub is_code : List ℕ → Bool
is_code (a ∷ b ∷ rest) = is_ascii_uppercase a && is_ascii_digit b
is_code _ = false

-- a capital letter comes first, of two bytes at least
abbrev pub is_capital : List ℕ → Bool
is_capital (a ∷ b ∷ rest) = is_ascii_uppercase a
is_capital _ = false

-- two bytes at least
abbrev pub is_long : List ℕ → Bool
is_long (a ∷ b ∷ rest) = true
is_long _ = false

abbrev pub is_sought : WordKind → List ℕ → Bool
is_sought Code name = is_code name
is_sought Capital name = is_capital name
is_sought Any name = is_long name

abbrev pub is_word : WordKind → List ℕ → ℕ → List ℕ → Bool
is_word sought line at name = is_sought sought name && is_word_at line at name

-- the line has one of the names at this place
abbrev pub HasWordAt : WordKind → List (List ℕ) → List ℕ → ℕ → Type 0
HasWordAt sought names line at = (place : ℕ) × (place < length names) × (is_word sought line at (get_or names place []) ≡ true)

-- or anywhere
abbrev pub HasWord : WordKind → List (List ℕ) → List ℕ → Type 0
HasWord sought names line = (at : ℕ) × (at < length line) × HasWordAt sought names line at
