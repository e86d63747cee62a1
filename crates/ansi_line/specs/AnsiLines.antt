-- The screen of a call, for a terminal with colours.
use Rattle.std.specs.Prelude.{ℕ, ◌+◌, ◌==◌, min, Bool, true, false, List, [], ◌∷◌, ◌++◌, codes, decimal, if◌then◌else◌}
use Rattle.screens.specs.Looks.{looks}
use Rattle.screens.specs.Ansi.{ansi}

-- from the cursor on, the rest of the row is erased, and after the last row all that is below it too
abbrev pub erased : (is_last : Bool) → List ℕ
erased true = codes "\u{1b}[J"
erased false = codes "\u{1b}[K"

-- the cursor to the first column of a row, the first of which is 1 and the last 24, and what is there erased
abbrev pub row_place : ℕ → List ℕ
row_place n = codes "\u{1b}[" ++ decimal n ++ codes ";1H" ++ erased (n == 24)

-- the row of the next byte, a count that stops at 255, and whether this is the first of its line
pub record LinePlace : Type 0 where
  pub row : ℕ
  pub begins : Bool

abbrev pub first_place : LinePlace
first_place = record { row = 1; begins = true }

-- before the first byte of a line its place
abbrev pub before_byte : LinePlace → List ℕ
before_byte p = if p.begins then row_place p.row else []

-- a line end (10) is left out
abbrev pub byte_placed : ℕ → List ℕ
byte_placed b = if b == 10 then [] else b ∷ []

abbrev pub row_after : LinePlace → ℕ → LinePlace
row_after p b = if b == 10 then record { row = min (p.row + 1) 255; begins = true } else record { row = p.row; begins = false }

-- lines, each after its place and without its end
abbrev pub lines_placed : LinePlace → List ℕ → List ℕ
lines_placed p [] = []
lines_placed p (b ∷ bs) = (before_byte p ++ byte_placed b) ++ lines_placed (row_after p b) bs

-- the screen of these cells: the lines of `show`'s form `ansi`. No line end is written, so nothing scrolls
abbrev pub screen_bytes : List ℕ → List ℕ
screen_bytes cells = lines_placed first_place (ansi (looks cells))
