-- The looks of a screen as text: characters, by their code points.
use Rattle.std.specs.Prelude.{ℕ, List, [], ◌∷◌, ◌++◌, map, ◌==◌, if◌then◌else◌}
use Rattle.std.specs.List.{flat_map}
use Rattle.screens.specs.declared.look.Glyph.{Glyph}
use Rattle.screens.specs.declared.look.Glyph.TheVariants.{Char, Block}
use Rattle.screens.specs.declared.look.Height.{Height}
use Rattle.screens.specs.declared.look.Height.TheVariants.{Single, Upper, Lower}
use Rattle.screens.specs.declared.look.Look.{Look}
use Rattle.screens.specs.declared.look.Shown.{Shown}
use Rattle.screens.specs.declared.look.Shown.TheVariants.{Ground, All}
use Rattle.screens.specs.Table.{six, sextants_char}
use Rattle.screens.specs.Looks.{shown}

abbrev pub glyph_char : Glyph → ℕ
glyph_char (Char c) = c
glyph_char (Block m) = sextants_char (six m.sextants)

-- a lower half is a space
abbrev pub half_char : Height → Glyph → ℕ
half_char Lower g = 0x20
half_char Single g = glyph_char g
half_char Upper g = glyph_char g

-- a background alone is a space
abbrev pub shown_char : Shown → ℕ
shown_char (Ground k) = 0x20
shown_char (All a) = half_char a.height a.glyph

-- the character of what a cell shows
abbrev pub seen_char : Look → ℕ
seen_char a = shown_char (shown a)

-- a character before others: a space before none is dropped
abbrev pub before : ℕ → List ℕ → List ℕ
before c [] = if c == 0x20 then [] else c ∷ []
before c (d ∷ ds) = c ∷ d ∷ ds

-- without the spaces at the end
abbrev pub trimmed : List ℕ → List ℕ
trimmed [] = []
trimmed (c ∷ cs) = before c (trimmed cs)

-- the line of a row
abbrev pub line : List Look → List ℕ
line row = trimmed (map seen_char row)

-- the lines, a newline after each
abbrev pub text : List (List Look) → List ℕ
text rows = flat_map (λ row. line row ++ 10 ∷ []) rows
