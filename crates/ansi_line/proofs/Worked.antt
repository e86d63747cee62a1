-- The reader at small texts.
use Rattle.std.proofs.Common.{◌≡◌, refl, true, false, [], ◌∷◌, map, Option, Some, None, codes}
use Rattle.std.specs.Char.{encode_utf8}
use Rattle.std.specs.Fmt.{digits}
use Rattle.std.specs.Str.{chars, is_utf8, encode_utf8_all}
use Rattle.screens.specs.declared.look.Colour.{Colour}
use Rattle.screens.specs.declared.look.Colour.TheVariants.{Black, Red, Blue}
use Rattle.screens.specs.Table.{start}
use Rattle.screens.specs.Looks.{row_looks, below}
use Rattle.screens.specs.Ansi.{ansi}
use Rattle.ansi_line.specs.AnsiReading.{Mark, Letter, Blocks, Cell, Refused, below_rows, ansi_refused, ansi_read}

abbrev drawn : Mark → Option Colour → Option Colour → Cell
drawn m f b = record { ink = Some (record { mark = m; foreground = f }); background = b; flash = false }

abbrev flashing : Mark → Option Colour → Option Colour → Cell
flashing m f b = record { ink = Some (record { mark = m; foreground = f }); background = b; flash = true }

abbrev blank : Option Colour → Cell
blank b = record { ink = None; background = b; flash = false }

-- two numbers in one sequence, and a reset without its number
pub numbers : ansi_read (codes "\u{1b}[31;44mA\u{1b}[mB\n") ≡ below_rows ((drawn (Letter 0x41) (Some Red) (Some Blue) ∷ drawn (Letter 0x42) None None ∷ []) ∷ [])
unfolding chars is_utf8 encode_utf8
numbers = refl

-- flash begins and ends, a colour is the terminal's own again, and an empty line is a row
pub flashes : ansi_read (codes "\u{1b}[5;32;39mA \u{1b}[25mA\n\n") ≡ below_rows ((flashing (Letter 0x41) None None ∷ record { ink = None; background = None; flash = true } ∷ drawn (Letter 0x41) None None ∷ []) ∷ [] ∷ [])
unfolding chars is_utf8 encode_utf8
flashes = refl

-- mosaics: the first sextant, the two halves, the last, and all six blocks; a square is a letter
pub mosaics : ansi_read (encode_utf8_all (codes "🬀▌▐🬻█■\n")) ≡ below_rows ((drawn (Blocks 1) None None ∷ drawn (Blocks 21) None None ∷ drawn (Blocks 42) None None ∷ drawn (Blocks 62) None None ∷ drawn (Blocks 63) None None ∷ drawn (Letter 0x25A0) None None ∷ []) ∷ [])
unfolding chars is_utf8 encode_utf8
mosaics = refl

-- bold isn't known, nor half a character
pub bold : ansi_read (codes "\u{1b}[1mA") ≡ ansi_refused (below_rows [])
unfolding chars is_utf8 encode_utf8
bold = refl

pub half : ansi_read (0xC2 ∷ []) ≡ ansi_refused (below_rows [])
unfolding chars is_utf8 encode_utf8
half = refl

-- the attributes red mosaics and flash, a mosaic of the first block, and a letter, of double height, over their lower halves
pub a_row : ansi_read (ansi (row_looks (start true) (0x8D ∷ 0x91 ∷ 0x88 ∷ 0x21 ∷ 0x41 ∷ []) ∷ [])) ≡
    below_rows ((blank (Some Black) ∷ blank (Some Black) ∷ blank (Some Black) ∷ flashing (Blocks 1) (Some Red) (Some Black) ∷ flashing (Letter 0x41) (Some Red) (Some Black) ∷ []) ∷ [])
unfolding chars is_utf8 encode_utf8 digits
a_row = refl

-- and its lower halves: blank
pub lower_halves : ansi_read (ansi (map below (row_looks (start true) (0x8D ∷ 0x81 ∷ 0x9D ∷ 0x41 ∷ [])) ∷ [])) ≡
    below_rows ((blank (Some Black) ∷ blank (Some Black) ∷ blank (Some Red) ∷ blank (Some Red) ∷ []) ∷ [])
unfolding chars is_utf8 encode_utf8 digits
lower_halves = refl

-- rows in their places, from the first on
pub places : ansi_read (codes "A\u{1b}[1;1HA\u{1b}[2;1HB") ≡ record (below_rows ((drawn (Letter 0x41) None None ∷ []) ∷ [])) { row = drawn (Letter 0x42) None None ∷ [] }
unfolding chars is_utf8 encode_utf8
places = refl

-- a row that is left out is refused
pub left_out : (ansi_read (codes "A\u{1b}[3;1HA")).mode ≡ Refused
unfolding chars is_utf8 encode_utf8
left_out = refl

-- what is right of the cursor or below it is erased
pub erases : ansi_read (codes "A\u{1b}[KB\u{1b}[0J") ≡ record (below_rows []) { row = drawn (Letter 0x41) None None ∷ drawn (Letter 0x42) None None ∷ [] }
unfolding chars is_utf8 encode_utf8
erases = refl

-- to erase what was written is refused
pub erases_all : (ansi_read (codes "A\u{1b}[2J")).mode ≡ Refused
unfolding chars is_utf8 encode_utf8
erases_all = refl
