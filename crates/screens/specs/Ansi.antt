-- The form `ansi`: characters in the colours of a terminal, as bytes.
use Rattle.std.specs.Prelude.{ℕ, Bool, true, false, List, [], ◌∷◌, ◌++◌, Option, Some, None, codes, decimal, ◌+◌, ◌==◌, if◌then◌else◌}
use Rattle.std.specs.List.{flat_map}
use Rattle.std.specs.Char.{encode_utf8}
use Rattle.screens.specs.declared.look.Colour.{Colour}
use Rattle.screens.specs.declared.look.Look.{Look}
use Rattle.screens.specs.Table.{colour_number}
use Rattle.screens.specs.declared.ansi.Pen.{Pen}
use Rattle.screens.specs.Text.{seen_char}

-- the control sequence SGR: escape (1B), `[`, the number, `m`
abbrev pub sgr : ℕ → List ℕ
sgr n = codes "\u{1b}[" ++ decimal n ++ codes "m"

-- after a reset nothing is set
abbrev pub unset : Pen
unset = record { foreground = None; background = None; flash = false }

-- this colour is set
abbrev pub is_set : Option Colour → Colour → Bool
is_set None k = false
is_set (Some j) k = colour_number j == colour_number k

-- the background, unless it is set
abbrev pub ground_bytes : Pen → Colour → List ℕ
ground_bytes p k = if is_set p.background k then [] else sgr (40 + colour_number k)

-- the foreground, unless it is set
abbrev pub ink_bytes : Pen → Colour → List ℕ
ink_bytes p k = if is_set p.foreground k then [] else sgr (30 + colour_number k)

-- flash on or off, unless it is so
abbrev pub flash_by : Bool → Bool → List ℕ
flash_by true true = []
flash_by true false = sgr 25
flash_by false true = sgr 5
flash_by false false = []

-- a cell that shows a character: the background, the foreground and flash, and the character
abbrev pub inked : Pen → Look → List ℕ
inked p a = ground_bytes p a.background ++ ink_bytes p a.foreground ++ flash_by p.flash a.flash ++ encode_utf8 (seen_char a)

-- a blank one: the background, and a space that doesn't flash
abbrev pub blanked : Pen → Look → List ℕ
blanked p a = ground_bytes p a.background ++ flash_by p.flash false ++ codes " "

abbrev pub is_blank_look : Look → Bool
is_blank_look a = seen_char a == 0x20

abbrev pub cell_bytes : Pen → Look → List ℕ
cell_bytes p a = if is_blank_look a then blanked p a else inked p a

-- what is set after a cell
abbrev pub pen_after : Pen → Look → Pen
pen_after p a =
    if is_blank_look a then record { foreground = p.foreground; background = Some a.background; flash = false }
    else record { foreground = Some a.foreground; background = Some a.background; flash = a.flash }

-- the cells of a row from one on, then a reset and a newline
abbrev pub cells_bytes : Pen → List Look → List ℕ
cells_bytes p [] = sgr 0 ++ codes "\n"
cells_bytes p (a ∷ rest) = cell_bytes p a ++ cells_bytes (pen_after p a) rest

-- the lines of all rows
abbrev pub ansi : List (List Look) → List ℕ
ansi rows = flat_map (cells_bytes unset) rows
