-- What bytes write, and where they leave a terminal.
use Rattle.terminal_codes.specs.declared.caret.Caret.{Caret}
use Rattle.terminal_codes.specs.Screen.{Screen, moved, code_of, byte_step, IsScreen, run}
use Rattle.std.specs.Prelude.{All, ◌<◌, ◌≤◌, ℕ, ◌+◌, ◌%◌, ◌==◌, ◌||◌, ◌&&◌, map, Bool, List, [], ◌∷◌, ◌++◌, Option, Some, None, nat_lt, nat_le, if◌then◌else◌, set, ◌≡◌, false, get_or}
use Rattle.std.specs.List.{range_with_len, list_any}

-- Where a terminal is: its position and pending escape, without its cells.

abbrev pub caret_of : Screen → Caret
caret_of t = record { at = t.at; pending = t.pending }

-- What a byte, and a list of bytes, writes: pairs of a position and a code, in order.

-- the first n cells, blank (32, a space)
unfoldable pub blanks : ℕ → List (ℕ × ℕ)
blanks n = map (λ p. (p, 32)) (range_with_len 0 n)

-- what a code at a position writes, if there is one
abbrev pub one : ℕ → Option ℕ → List (ℕ × ℕ)
one at None = []
one at (Some code) = (at, code) ∷ []

-- what one byte writes: 12 is 0C, which clears
abbrev pub byte_writes : Caret → ℕ → List (ℕ × ℕ)
byte_writes c b = if b == 12 then blanks 960 else one c.at (code_of c.pending b)

-- where a code leaves the position, if there is one
abbrev pub past : ℕ → Option ℕ → ℕ
past at None = at
past at (Some code) = (at + 1) % 960

-- where a byte from 00 to 1F leaves the position: 12 is 0C, which goes home
abbrev pub control_at : ℕ → ℕ → ℕ
control_at at b = if b == 12 then 0 else moved at b

-- where one byte leaves the position, and whether an escape (27, 1B) is pending
abbrev pub caret_step : Caret → ℕ → Caret
caret_step c b = record { at = if nat_lt b 32 then control_at c.at b else past c.at (code_of c.pending b); pending = b == 27 }

-- where the bytes leave them, in order
abbrev pub caret_run : Caret → List ℕ → Caret
caret_run c [] = c
caret_run c (b ∷ bs) = caret_run (caret_step c b) bs

-- what the bytes write on a terminal
abbrev pub writes : Screen → List ℕ → List (ℕ × ℕ)
writes t [] = []
writes t (b ∷ bs) = byte_writes (caret_of t) b ++ writes (byte_step t b) bs

-- the pairs stored in order
abbrev pub stored : List ℕ → List (ℕ × ℕ) → List ℕ
stored cells [] = cells
stored cells (w ∷ ws) = stored (set cells w.0 w.1) ws

-- whether a pair of the list is at the position
abbrev pub is_written : ℕ → List (ℕ × ℕ) → Bool
is_written p ws = list_any (λ w. w.0 == p) ws

-- rows 0 and 23 are the service rows
abbrev pub in_service_row : ℕ → Bool
in_service_row position = nat_lt position 40 || nat_le 920 position

-- row 22, above a service row
abbrev pub in_row_22 : ℕ → Bool
in_row_22 position = nat_le 880 position && nat_lt position 920

-- the attribute double height (141, 8D), whose lower half shows in the row beneath
abbrev pub is_double_height : ℕ → Bool
is_double_height code = code == 141

-- a code at a position counts as written in a service row if it is in one, or if its lower half shows in one:
-- then the position is a service position for the code
abbrev pub is_service : ℕ → ℕ → Bool
is_service position code = in_service_row position || (is_double_height code && in_row_22 position)

-- one of the pairs counts as written in a service row
abbrev pub has_service : List (ℕ × ℕ) → Bool
has_service ws = list_any (λ w. is_service w.0 w.1) ws

-- the byte writes a service position
abbrev pub touches : Caret → ℕ → Bool
touches c b = has_service (byte_writes c b)

-- What is said of every terminal and every list of bytes.

-- the cells afterwards are those before with the pairs stored in order, and no other cell changes
pub record StoresWrites (t : Screen) (bytes : List ℕ) : Type 0 where
  pub cells : (run t bytes).cells ≡ stored t.cells (writes t bytes)
  pub others : (p : ℕ) → is_written p (writes t bytes) ≡ false → get_or (run t bytes).cells p 0 ≡ get_or t.cells p 0
  pub screen : IsScreen (run t bytes)

-- for every terminal and all bytes
abbrev pub CellsAreWrites : Type 0
CellsAreWrites = (t : Screen) (bytes : List ℕ) → IsScreen t → StoresWrites t bytes

-- a code that a cell can hold: a character or mosaic, 20 to 7F, or an attribute, 80 to 9F
abbrev pub IsCode : ℕ → Type 0
IsCode c = (0x20 ≤ c) × (c < 0xA0)

-- if the cells of a terminal hold such codes, as those of a new one do, they still do after any bytes
abbrev pub CellsHoldCodes : Type 0
CellsHoldCodes = (t : Screen) (bytes : List ℕ) → All (λ b. b < 256) bytes → All IsCode t.cells → All IsCode (run t bytes).cells

-- the pairs and the end are the same from equal position and pending escape
pub record RunsAlike (t u : Screen) (bytes : List ℕ) : Type 0 where
  pub writes : writes t bytes ≡ writes u bytes
  pub ends : caret_of (run t bytes) ≡ caret_of (run u bytes)

-- for every two terminals and all bytes
abbrev pub CaretDecides : Type 0
CaretDecides = (t u : Screen) (bytes : List ℕ) → caret_of t ≡ caret_of u → RunsAlike t u bytes
