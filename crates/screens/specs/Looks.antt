-- The looks of rows and screens.
use Rattle.std.specs.Prelude.{ℕ, zero, suc, Bool, false, not, List, [], ◌∷◌, map, take, drop, ◌-◌, ◌*◌, ◌==◌, ◌&&◌, ◌||◌, nat_lt, nat_le, if◌then◌else◌}
use Rattle.std.specs.List.{range_with_len, list_any}
use Rattle.screens.specs.declared.look.Glyph.{Glyph}
use Rattle.screens.specs.declared.look.Glyph.TheVariants.{Char, Block}
use Rattle.screens.specs.declared.look.Height.{Height}
use Rattle.screens.specs.declared.look.Height.TheVariants.{Single, Upper, Lower}
use Rattle.screens.specs.declared.look.Look.{Look}
use Rattle.screens.specs.declared.look.Shown.{Shown}
use Rattle.screens.specs.declared.look.Shown.TheVariants.{Ground, All}
use Rattle.screens.specs.declared.row.State.{State}
use Rattle.screens.specs.Table.{start, at, after, seen, look_of}

-- One row.

-- the state after a code
abbrev pub row_step : State → ℕ → State
row_step s c = after (seen (at s c) c) c

-- the looks of the cells from a state on
abbrev pub row_looks : State → List ℕ → List Look
row_looks s [] = []
row_looks s (c ∷ cs) = look_of (at s c) c ∷ row_looks (row_step s c) cs

-- What shows.

abbrev pub is_space : Glyph → Bool
is_space (Char c) = c == 0x20
is_space (Block m) = false

-- a concealed or blank cell shows only its background
abbrev pub shown : Look → Shown
shown a = if a.concealed || is_space a.glyph then Ground a.background else All a

-- Double height.

-- below an upper half its lower half, below any other cell a space with its colours, flash and concealment
abbrev pub below_of : Height → Look → Look
below_of Upper a = record a { height = Lower }
below_of Single a = record a { glyph = Char 0x20; height = Single }
below_of Lower a = record a { glyph = Char 0x20; height = Single }

abbrev pub below : Look → Look
below a = below_of a.height a

-- the codes of row r
abbrev pub codes_of_row : List ℕ → ℕ → List ℕ
codes_of_row cells r = take 40 (drop (40 * r) cells)

-- A screen.

-- double height counts in rows 1 to 22
abbrev pub can_stretch : ℕ → Bool
can_stretch r = nat_le 1 r && nat_le r 22

-- the row has a double height that counts
abbrev pub has_double : List ℕ → ℕ → Bool
has_double cells r = can_stretch r && list_any (λ c. c == 0x8D) (codes_of_row cells r)

-- a row with a double height covers the row beneath; a covered row covers none
abbrev pub is_covered : List ℕ → ℕ → Bool
is_covered cells zero = false
is_covered cells (suc r) = has_double cells r && not (is_covered cells r)

-- a code that is seen if nothing covers it: a character or mosaic, but no space
abbrev pub is_text : ℕ → Bool
is_text c = nat_lt 0x20 c && nat_lt c 0x80

abbrev pub has_text : List ℕ → ℕ → Bool
has_text cells r = list_any is_text (codes_of_row cells r)

-- the row above covers text of row r
abbrev pub hides_text : List ℕ → ℕ → Bool
hides_text cells r = nat_lt r 24 && (is_covered cells r && has_text cells r)

-- the looks of row r by its own codes
abbrev pub own_looks : List ℕ → ℕ → List Look
own_looks cells r = row_looks (start (can_stretch r)) (codes_of_row cells r)

-- the looks of row r: below those of the row above if that covers it, else its own
abbrev pub looks_at : List ℕ → ℕ → List Look
looks_at cells r = if is_covered cells r then map below (own_looks cells (r - 1)) else own_looks cells r

-- the looks of 24 rows
unfoldable pub looks : List ℕ → List (List Look)
looks cells = map (looks_at cells) (range_with_len 0 24)
