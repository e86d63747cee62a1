-- How a terminal with colours reads a text: characters in UTF-8, line ends, and the control sequences SGR, CUP, EL and ED. It knows nothing of
-- who writes it, and refuses what it doesn't know.
use Rattle.std.specs.Prelude.{ℕ, Bool, true, false, List, [], ◌∷◌, ◌++◌, Option, Some, None, length, ◌+◌, ◌-◌, ◌*◌, ◌==◌, ◌&&◌, ◌||◌, nat_le, if◌then◌else◌}
use Rattle.std.specs.Str.{chars, is_utf8}
use Rattle.std.specs.Char.{is_ascii_digit, is_control}
use Rattle.screens.specs.declared.look.Colour.{Colour}
use Rattle.screens.specs.declared.look.Colour.TheVariants.{Black, Red, Green, Yellow, Blue, Magenta, Cyan, White}

-- What a cell shows.

-- a letter, by its code point, or blocks of 2 × 3: the sum of 1 top left, 2 top right, 4 and 8 the middle, 16 and 32 the bottom
pub data Mark : Type 0 where
  Letter : (c : ℕ) → Mark
  Blocks : (six : ℕ) → Mark

-- no colour is the terminal's own
pub record CellInk : Type 0 where
  pub mark : Mark
  pub foreground : Option Colour

-- a blank cell has no ink
pub record Cell : Type 0 where
  pub ink : Option CellInk
  pub background : Option Colour
  pub flash : Bool

-- What is set, for the characters to come.

pub record Rendition : Type 0 where
  pub foreground : Option Colour
  pub background : Option Colour
  pub flash : Bool

abbrev pub default : Rendition
default = record { foreground = None; background = None; flash = false }

-- the colour of a last digit, 0 to 7
abbrev pub colour_of_digit : ℕ → Colour
colour_of_digit n =
    if n == 0 then Black
    else if n == 1 then Red
    else if n == 2 then Green
    else if n == 3 then Yellow
    else if n == 4 then Blue
    else if n == 5 then Magenta
    else if n == 6 then Cyan
    else White

-- SGR n: 0 resets, 5 flashes, 25 is steady, 30 to 37 set a foreground and 40 to 47 a background, 39 and 49 take the terminal's own. No
-- other number is known
abbrev pub select : Rendition → ℕ → Option Rendition
select s n =
    if n == 0 then Some default
    else if n == 5 then Some (record s { flash = true })
    else if n == 25 then Some (record s { flash = false })
    else if nat_le 30 n && nat_le n 37 then Some (record s { foreground = Some (colour_of_digit (n - 30)) })
    else if n == 39 then Some (record s { foreground = None })
    else if nat_le 40 n && nat_le n 47 then Some (record s { background = Some (colour_of_digit (n - 40)) })
    else if n == 49 then Some (record s { background = None })
    else None

-- several numbers, one after another
abbrev pub select_all : Option Rendition → List ℕ → Option Rendition
select_all None ns = None
select_all (Some s) [] = Some s
select_all (Some s) (n ∷ ns) = select_all (select s n) ns

-- What a character draws.

-- a space draws nothing; a full block, two half blocks and, from U+1FB00 on, the sextants, which leave those three out, draw blocks; any
-- other draws itself
abbrev pub char_mark : ℕ → Option Mark
char_mark c =
    if c == 0x20 then None
    else if c == 0x258C then Some (Blocks 21)
    else if c == 0x2590 then Some (Blocks 42)
    else if c == 0x2588 then Some (Blocks 63)
    else if nat_le 0x1FB00 c && nat_le c 0x1FB13 then Some (Blocks (c - 0x1FB00 + 1))
    else if nat_le 0x1FB14 c && nat_le c 0x1FB27 then Some (Blocks (c - 0x1FB14 + 22))
    else if nat_le 0x1FB28 c && nat_le c 0x1FB3B then Some (Blocks (c - 0x1FB28 + 43))
    else Some (Letter c)

abbrev pub ink_in : Option Colour → Option Mark → Option CellInk
ink_in k None = None
ink_in k (Some m) = Some (record { mark = m; foreground = k })

-- the cell of a character
abbrev pub cell_of_char : Rendition → ℕ → Cell
cell_of_char s c = record { ink = ink_in s.foreground (char_mark c); background = s.background; flash = s.flash }

-- Reading.

pub data Mode : Type 0 where
  -- characters and line ends
  Characters : Mode
  -- after an escape
  Escape : Mode
  -- in a control sequence, after these numbers, with this one so far
  Numbers : (before : List ℕ) (now : ℕ) → Mode
  -- what was read is no such text
  Refused : Mode

-- the rows above the cursor, and the cells before it in its own row: those that were written since it was last put at row 1
pub record AnsiRead : Type 0 where
  pub mode : Mode
  pub rows : List (List Cell)
  pub row : List Cell
  pub set : Rendition

abbrev pub ansi_refused : AnsiRead → AnsiRead
ansi_refused r = record r { mode = Refused }

-- the next cell of the row
abbrev pub put_cell : AnsiRead → Cell → AnsiRead
put_cell r a = record r { row = r.row ++ a ∷ [] }

-- a line end
abbrev pub next_row : AnsiRead → AnsiRead
next_row r = record r { rows = r.rows ++ r.row ∷ []; row = [] }

-- SGR
abbrev pub with_set : AnsiRead → Option Rendition → AnsiRead
with_set r None = ansi_refused r
with_set r (Some s) = record r { mode = Characters; set = s }

-- CUP: the start of row n. At row 1 all is written anew; another has to be the next one, so that no cell is left out or written twice
abbrev pub at_row : AnsiRead → ℕ → AnsiRead
at_row r n =
    if n == 1 then record r { mode = Characters; rows = []; row = [] }
    else if n == length r.rows + 2 then next_row (record r { mode = Characters })
    else ansi_refused r

abbrev pub at_place : AnsiRead → List ℕ → AnsiRead
at_place r (n ∷ m ∷ []) = if m == 1 then at_row r n else ansi_refused r
at_place r ns = ansi_refused r

-- EL and ED with the number 0: no cell is kept here of what they erase, from the cursor to the end of its row or of the screen
abbrev pub erased_on : AnsiRead → List ℕ → AnsiRead
erased_on r (n ∷ []) = if n == 0 then record r { mode = Characters } else ansi_refused r
erased_on r ns = ansi_refused r

-- a control sequence with these numbers: `ESC [ n ; .. m`, `ESC [ n ; m H`, `ESC [ n J` or `ESC [ n K`
abbrev pub ended_by : ℕ → AnsiRead → List ℕ → AnsiRead
ended_by c r ns =
    if c == 0x6D then with_set r (select_all (Some r.set) ns)
    else if c == 0x48 then at_place r ns
    else if c == 0x4A || c == 0x4B then erased_on r ns
    else ansi_refused r

-- a number that isn't written is 0. Other control characters are refused
abbrev pub step_in : Mode → AnsiRead → ℕ → AnsiRead
step_in Characters r c =
    if c == 0x1B then record r { mode = Escape }
    else if c == 10 then next_row r
    else if is_control c then ansi_refused r
    else put_cell r (cell_of_char r.set c)
step_in Escape r c = if c == 0x5B then record r { mode = Numbers [] 0 } else ansi_refused r
step_in (Numbers before now) r c =
    if is_ascii_digit c then record r { mode = Numbers before (10 * now + (c - 0x30)) }
    else if c == 0x3B then record r { mode = Numbers (before ++ now ∷ []) 0 }
    else ended_by c r (before ++ now ∷ [])
step_in Refused r c = r

abbrev pub ansi_step : AnsiRead → ℕ → AnsiRead
ansi_step r c = step_in r.mode r c

abbrev pub read_on : AnsiRead → List ℕ → AnsiRead
read_on r [] = r
read_on r (c ∷ cs) = read_on (ansi_step r c) cs

-- nothing is set, and these rows are above the cursor
abbrev pub below_rows : List (List Cell) → AnsiRead
below_rows rows = record { mode = Characters; rows = rows; row = []; set = default }

-- a text from its start
abbrev pub ansi_read : List ℕ → AnsiRead
ansi_read bs = if is_utf8 bs then read_on (below_rows []) (chars bs) else ansi_refused (below_rows [])
