-- The tables: colours, characters, mosaics, and what each attribute does.
use Rattle.std.specs.Prelude.{ℕ, Bool, true, false, Option, Some, None, option_map, ◌+◌, ◌-◌, ◌*◌, ◌/◌, ◌%◌, ◌==◌, ◌&&◌, ◌||◌, nat_lt, nat_le, if◌then◌else◌}
use Rattle.screens.specs.declared.look.Colour.{Colour}
use Rattle.screens.specs.declared.look.Colour.TheVariants.{Black, Red, Green, Yellow, Blue, Magenta, Cyan, White}
use Rattle.screens.specs.declared.look.Glyph.{Glyph}
use Rattle.screens.specs.declared.look.Glyph.TheVariants.{Char, Block}
use Rattle.screens.specs.declared.look.Height.TheVariants.{Single, Upper}
use Rattle.screens.specs.declared.look.Look.{Look}
use Rattle.screens.specs.declared.mosaic.Mosaic.{Mosaic}
use Rattle.screens.specs.declared.mosaic.Sextants.{Sextants}
use Rattle.screens.specs.declared.row.State.{State}

-- Colours.

abbrev pub colour_of : ℕ → Colour
colour_of n =
    if n == 1 then Red
    else if n == 2 then Green
    else if n == 3 then Yellow
    else if n == 4 then Blue
    else if n == 5 then Magenta
    else if n == 6 then Cyan
    else if n == 7 then White
    else Black

abbrev pub colour_number : Colour → ℕ
colour_number Black = 0
colour_number Red = 1
colour_number Green = 2
colour_number Yellow = 3
colour_number Blue = 4
colour_number Magenta = 5
colour_number Cyan = 6
colour_number White = 7

-- Characters.

-- ASCII, except twelve codes: £ ← ½ → ↑ # — ¼ ‖ ¾ ÷ ■. What isn't 20 to 7F is a space
abbrev pub character : ℕ → ℕ
character c =
    if c == 0x23 then 0xA3
    else if c == 0x5B then 0x2190
    else if c == 0x5C then 0xBD
    else if c == 0x5D then 0x2192
    else if c == 0x5E then 0x2191
    else if c == 0x5F then 0x23
    else if c == 0x60 then 0x2014
    else if c == 0x7B then 0xBC
    else if c == 0x7C then 0x2016
    else if c == 0x7D then 0xBE
    else if c == 0x7E then 0xF7
    else if c == 0x7F then 0x25A0
    else if nat_le 0x20 c && nat_lt c 0x7B then c
    else 0x20

-- Mosaics.

-- with mosaics on, 20 to 3F and 60 to 7F are blocks
abbrev pub is_mosaic : ℕ → Bool
is_mosaic c = nat_le 0x20 c && nat_le c 0x3F || nat_le 0x60 c && nat_le c 0x7F

-- (code & 1F) + (code & 40) / 2, of a code below 80
abbrev pub six_of : ℕ → ℕ
six_of c = c % 32 + c / 64 * 32

-- six bits, at least one of them set
abbrev pub sextants_of : ℕ → Option Sextants
sextants_of n = if nat_lt 0 n && nat_lt n 64 then Some (record { six = n }) else None

abbrev pub six : Sextants → ℕ
six s = s.six

-- the character of six bits: a half or full block, or one from U+1FB00 on, which leave those out
abbrev pub sextants_char : ℕ → ℕ
sextants_char n =
    if n == 21 then 0x258C
    else if n == 42 then 0x2590
    else if n == 63 then 0x2588
    else 0x1FB00 + n - 1 - (if nat_lt 21 n then 1 else 0) - (if nat_lt 42 n then 1 else 0)

-- the mosaic of a code; none without blocks
abbrev pub mosaic_of : ℕ → Bool → Option Mosaic
mosaic_of c separated = option_map (λ n. record { sextants = n; separated = separated }) (sextants_of (six_of c))

-- a mosaic, or a space, which is never separated
abbrev pub block : Option Mosaic → Glyph
block None = Char 0x20
block (Some m) = Block m

-- Attributes.

-- each row begins white on black, alphanumerics, steady, revealed, single height, contiguous, released, its held mosaic blank
abbrev pub start : Bool → State
start can_stretch = record {
  can_stretch = can_stretch;
  foreground = White;
  background = Black;
  flash = false;
  concealed = false;
  mosaics = false;
  separated = false;
  hold = false;
  double = false;
  held = None;
}

-- the state of this height; a change makes the held mosaic blank
abbrev pub with_double : Bool → State → State
with_double true s = if s.double then s else record s { double = true; held = None }
with_double false s = if s.double then record s { double = false; held = None } else s

-- a colour: mosaics or letters, revealed; a change between both makes the held mosaic blank
abbrev pub with_mosaics : Bool → Colour → State → State
with_mosaics true k s = record s { mosaics = true; foreground = k; concealed = false; held = if s.mosaics then s.held else None }
with_mosaics false k s = record s { mosaics = false; foreground = k; concealed = false; held = if s.mosaics then None else s.held }

-- what counts from the attribute's own cell on
abbrev pub at : State → ℕ → State
at s c =
    if c == 0x89 then record s { flash = false }
    else if c == 0x8C then with_double false s
    else if c == 0x98 then record s { concealed = true }
    else if c == 0x99 then record s { separated = false }
    else if c == 0x9A then record s { separated = true }
    else if c == 0x9C then record s { background = Black }
    else if c == 0x9D then record s { background = s.foreground }
    else if c == 0x9E then record s { hold = true }
    else s

-- what counts from the next cell on; 8D only if double height counts in the row
abbrev pub after : State → ℕ → State
after s c =
    if nat_le 0x81 c && nat_le c 0x87 then with_mosaics false (colour_of (c - 0x80)) s
    else if nat_le 0x91 c && nat_le c 0x97 then with_mosaics true (colour_of (c - 0x90)) s
    else if c == 0x88 then record s { flash = true }
    else if c == 0x8D then (if s.can_stretch then with_double true s else s)
    else if c == 0x9F then record s { hold = false }
    else s

-- the held mosaic is the last mosaic of the row, separated or not as it was then; characters don't change it
abbrev pub seen : State → ℕ → State
seen s c = if s.mosaics && is_mosaic c then record s { held = mosaic_of c s.separated } else s

-- what a code's cell holds: that of an attribute is blank, or the held mosaic if mosaics and hold are on
abbrev pub glyph_of : State → ℕ → Glyph
glyph_of s c =
    if nat_le 0x80 c then (if s.mosaics && s.hold then block s.held else Char 0x20)
    else if s.mosaics && is_mosaic c then block (mosaic_of c s.separated)
    else Char (character c)

abbrev pub look_of : State → ℕ → Look
look_of s c = record {
  glyph = glyph_of s c;
  foreground = s.foreground;
  background = s.background;
  flash = s.flash;
  concealed = s.concealed;
  height = if s.double then Upper else Single;
}
