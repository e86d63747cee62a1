-- What one sees of a frame alone, on a cleared screen: escapes that are shown as they are written, and menus.
use Rattle.std.specs.Prelude.{ℕ, ◌+◌, ◌-◌, ◌/◌, ◌%◌, Bool, true, false, ◌==◌, ◌&&◌, ◌||◌, not, nat_le, List, [], ◌∷◌, ◌++◌, length, count_by, Option, Some, None, is_some, if◌then◌else◌}
use Rattle.std.specs.Char.{is_ascii_hexdigit}
use Rattle.std.specs.List.{list_any}
use Rattle.page_ids.specs.Ids.{Id}
use Rattle.frame_records.specs.declared.frame.Frame.{Frame}
use Rattle.frame_records.specs.Seek.{route_of}
use Rattle.terminal_codes.specs.Screen.{CaretView, code_of}
use Rattle.terminal_codes.specs.Writes.{caret_step}
use Rattle.screens.specs.declared.look.Colour.{Colour}
use Rattle.screens.specs.declared.look.Glyph.{Glyph}
use Rattle.screens.specs.declared.look.Glyph.TheVariants.{Char, Block}
use Rattle.screens.specs.declared.look.Height.{Height}
use Rattle.screens.specs.declared.look.Height.TheVariants.{Single, Upper, Lower}
use Rattle.screens.specs.declared.look.Look.{Look as Cell}
use Rattle.screens.specs.Looks.{codes_of_row}
use Rattle.screens.specs.Table.{colour_number}
use Rattle.lint.specs.declared.looks.Look.{Look}
use Rattle.lint.specs.declared.looks.Look.TheVariants.{Shown, Offers}
use Rattle.lint.specs.declared.offers.MenuLine.{MenuLine}
use Rattle.lint.specs.Looks.{holds_escape}

-- What writes the screen.

-- a position in a row and a column
abbrev pub is_place : ℕ → ℕ → ℕ → Bool
is_place at r column = (at / 40 == r) && (at % 40 == column)

abbrev pub writer_if : ℕ → ℕ → CaretView → Option ℕ → ℕ → ℕ → Option ℕ
writer_if r column c last n b = if is_place c.at r column && is_some (code_of c.pending b) then Some n else last

-- the index of the last byte that writes a code there
abbrev pub writer_from : ℕ → ℕ → CaretView → Option ℕ → ℕ → List ℕ → Option ℕ
writer_from r column c last n [] = last
writer_from r column c last n (b ∷ bs) = writer_from r column (caret_step c b) (writer_if r column c last n b) (n + 1) bs

abbrev pub writer_at : List ℕ → ℕ → ℕ → Option ℕ
writer_at body r column = writer_from r column (record { at = 40; pending = false }) None 0 body

-- What one sees of a cell.

abbrev pub holds_block : Glyph → Bool
holds_block (Char c) = false
holds_block (Block m) = true

-- a mosaic that isn't concealed
abbrev pub shows_block : Cell → Bool
shows_block a = not a.concealed && holds_block a.glyph

abbrev pub is_lower : Height → Bool
is_lower Single = false
is_lower Upper = false
is_lower Lower = true

abbrev pub read_glyph : Glyph → ℕ
read_glyph (Char c) = c
read_glyph (Block m) = 0x20

-- what it holds isn't seen, or only the lower half of it
abbrev pub is_unread : Cell → Bool
is_unread a = a.concealed || is_lower a.height

-- its character; a space, if it is concealed or covered, or a mosaic
abbrev pub read_char : Cell → ℕ
read_char a = if is_unread a then 0x20 else read_glyph a.glyph

abbrev pub is_gap_cell : Cell → Bool
is_gap_cell a = read_char a == 0x20

-- it is of a word
abbrev pub shows_character : Cell → Bool
shows_character a = not (is_gap_cell a)

abbrev pub has_words : List Cell → Bool
has_words cells = list_any shows_character cells

abbrev pub has_blocks : List Cell → Bool
has_blocks cells = list_any shows_block cells

-- the column of the first of the last cells of a row
abbrev pub column_of : List Cell → ℕ
column_of cells = 40 - length cells

-- Escapes that are shown.

-- u00 and two digits of base 16 come first
abbrev pub begins_shown : List Cell → Bool
begins_shown (a ∷ b ∷ c ∷ d ∷ e ∷ rest) =
    (read_char a == 0x75) && ((read_char b == 0x30) && ((read_char c == 0x30) && (is_ascii_hexdigit (read_char d) && is_ascii_hexdigit (read_char e))))
begins_shown _ = false

-- an escape may come after it: the code of \, which shows as ½; /, or a quotation mark
abbrev pub may_open : ℕ → Bool
may_open c = (c == 0xBD) || ((c == 0x2F) || ((c == 0x22) || (c == 0x27)))

-- the column of the first one; one may come first of the cells, or not
abbrev pub shown_column : Bool → List Cell → Option ℕ
shown_column may [] = None
shown_column may (a ∷ more) =
    if may && begins_shown (a ∷ more) then Some (column_of (a ∷ more)) else shown_column (may_open (read_char a)) more

abbrev pub shown_look : Frame → List ℕ → ℕ → Option ℕ → List (Id × Look)
shown_look f cells r None = []
shown_look f cells r (Some column) =
    (f.id, Shown r (writer_at f.body r column) (holds_escape (codes_of_row cells r))) ∷ []

-- those of rows, from a number on, after others
abbrev pub shown_from : Frame → List ℕ → List (Id × Look) → ℕ → List (List Cell) → List (Id × Look)
shown_from f cells so_far r [] = so_far
shown_from f cells so_far r (row ∷ rows) =
    shown_from f cells (so_far ++ shown_look f cells r (shown_column true row)) (r + 1) rows

-- Menus.

abbrev pub char_digit : ℕ → Option ℕ
char_digit c =
    if c == 0x30 then Some 0
    else if c == 0x31 then Some 1
    else if c == 0x32 then Some 2
    else if c == 0x33 then Some 3
    else if c == 0x34 then Some 4
    else if c == 0x35 then Some 5
    else if c == 0x36 then Some 6
    else if c == 0x37 then Some 7
    else if c == 0x38 then Some 8
    else if c == 0x39 then Some 9
    else None

-- a digit is the first word, and others come after it
abbrev pub menu_if : ℕ → ℕ → Colour → Bool → Option ℕ → Option MenuLine
menu_if r column colour is_first None = None
menu_if r column colour is_first (Some digit) =
    if is_first then Some (record { row = r; column = column; digit = digit; colour = colour }) else None

abbrev pub menu_here : ℕ → ℕ → Cell → List Cell → Option MenuLine
menu_here r column a [] = None
menu_here r column a (b ∷ bs) = menu_if r column a.foreground (is_gap_cell b && has_words bs) (char_digit (read_char a))

-- by the first word of the last cells of a row
abbrev pub menu_after : ℕ → List Cell → Option MenuLine
menu_after r [] = None
menu_after r (a ∷ more) = if is_gap_cell a then menu_after r more else menu_here r (column_of (a ∷ more)) a more

-- a row between the service rows, without mosaics, whose first word is a single digit and has more words after it
abbrev pub menu_line : ℕ → List Cell → Option MenuLine
menu_line r cells = if (nat_le 1 r && nat_le r 22) && not (has_blocks cells) then menu_after r cells else None

abbrev pub listed_line : Option MenuLine → List MenuLine
listed_line None = []
listed_line (Some line) = line ∷ []

-- those of rows, from a number on, after others
abbrev pub menu_from : List MenuLine → ℕ → List (List Cell) → List MenuLine
menu_from so_far r [] = so_far
menu_from so_far r (row ∷ rows) = menu_from (so_far ++ listed_line (menu_line r row)) (r + 1) rows

abbrev pub menu_of : List (List Cell) → List MenuLine
menu_of rows = menu_from [] 0 rows

abbrev pub has_route : Frame → ℕ → Bool
has_route f digit = is_some (route_of f digit)

-- a line whose digit has a route, in the same column and colour as another's
abbrev pub is_peer : Frame → MenuLine → MenuLine → Bool
is_peer f line other =
    has_route f other.digit && ((line.column == other.column) && (colour_number line.colour == colour_number other.colour))

-- the digit has no route, and at least two lines are its peers
abbrev pub lacks_route : Frame → List MenuLine → MenuLine → Bool
lacks_route f menu line = not (has_route f line.digit) && nat_le 2 (count_by (is_peer f line) menu)

abbrev pub offers_look : Frame → MenuLine → Id × Look
offers_look f line = (f.id, Offers line.row (writer_at f.body line.row line.column) line.digit)

abbrev pub offers_if : Frame → List MenuLine → MenuLine → List (Id × Look)
offers_if f menu line = if lacks_route f menu line then offers_look f line ∷ [] else []

abbrev pub offers_from : Frame → List MenuLine → List (Id × Look) → List MenuLine → List (Id × Look)
offers_from f menu so_far [] = so_far
offers_from f menu so_far (line ∷ lines) = offers_from f menu (so_far ++ offers_if f menu line) lines
