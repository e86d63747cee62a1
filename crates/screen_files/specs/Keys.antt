-- The digits that begin a word in rows 1 to 22.
use Rattle.std.specs.Prelude.{ℕ, Bool, false, not, List, [], ◌∷◌, Option, Some, None, ◌+◌, ◌==◌, ◌&&◌, ◌||◌, drop, take}
use Rattle.std.specs.List.{list_any}
use Rattle.std.specs.Option.{is_some}
use Rattle.screens.specs.declared.look.Glyph.{Glyph}
use Rattle.screens.specs.declared.look.Glyph.TheVariants.{Char, Block}
use Rattle.screens.specs.declared.look.Look.{Look}
use Rattle.screens.specs.declared.look.Shown.{Shown}
use Rattle.screens.specs.declared.look.Shown.TheVariants.{Ground, All}
use Rattle.screens.specs.Looks.{shown}

-- the character of a cell of a word: what shows, but no mosaic
abbrev pub glyph_letter : Glyph → Option ℕ
glyph_letter (Char c) = Some c
glyph_letter (Block m) = None

abbrev pub shown_letter : Shown → Option ℕ
shown_letter (Ground k) = None
shown_letter (All a) = glyph_letter a.glyph

abbrev pub letter : Look → Option ℕ
letter a = shown_letter (shown a)

abbrev pub is_this_char : ℕ → Option ℕ → Bool
is_this_char c None = false
is_this_char c (Some d) = d == c

-- a word of these cells begins with the character; whether the cell before them is of a word
abbrev pub word_begins : ℕ → Bool → List Look → Bool
word_begins c in_word [] = false
word_begins c in_word (a ∷ rest) = (not in_word && is_this_char c (letter a)) || word_begins c (is_some (letter a)) rest

-- in rows 1 to 22 of a screen; 48 is `0`
abbrev pub shows_key : List (List Look) → ℕ → Bool
shows_key looks digit = list_any (word_begins (48 + digit) false) (take 22 (drop 1 looks))
