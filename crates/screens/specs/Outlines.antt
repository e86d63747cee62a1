-- Letters: their dots rounded, and their outlines read back. A cell has 10 rows of 6 dots, and 20 rows of 12 half dots.
use Rattle.std.specs.Prelude.{ℕ, Bool, true, false, not, List, [], ◌∷◌, get_or, ◌+◌, ◌-◌, ◌*◌, ◌/◌, ◌%◌, ◌==◌, ◌&&◌, ◌||◌, nat_le, nat_lt, if◌then◌else◌}
use Rattle.screens.specs.declared.look.Height.{Height}
use Rattle.screens.specs.declared.look.Height.TheVariants.{Single, Upper, Lower}
use Rattle.screens.specs.Letters.{Letter, letter_drawn}

-- Rounding.

-- a dot, `#`, by its row and column, counted from 1; there is none outside of the cell
abbrev pub is_dot : List (List ℕ) → ℕ → ℕ → Bool
is_dot dots r c = get_or (0x2E ∷ get_or ([] ∷ dots) r []) c 0x2E == 0x23

-- a dot in the row above or below and one in the column beside, but none where both meet
abbrev pub is_between : List (List ℕ) → ℕ → ℕ → ℕ → ℕ → Bool
is_between dots r c next_row next_column = is_dot dots next_row c && (is_dot dots r next_column && not (is_dot dots next_row next_column))

-- the half dot in column x and row y is lit: it is a quarter of a dot, or two dots touch at its outer corner alone
abbrev pub is_half_dot : List (List ℕ) → ℕ → ℕ → Bool
is_half_dot dots x y = is_dot dots (y / 2 + 1) (x / 2 + 1) || is_between dots (y / 2 + 1) (x / 2 + 1) (y / 2 + 2 * (y % 2)) (x / 2 + 2 * (x % 2))

-- the row of half dots that row y of a cell shows: at double height each takes two rows, in the upper half the first ten
abbrev pub half_row : Height → ℕ → ℕ
half_row Single y = y
half_row Upper y = y / 2
half_row Lower y = 10 + y / 2

-- The outline of a character.

abbrev pub half_outline : Height → Letter → List ℕ
half_outline Single l = l.single
half_outline Upper l = l.upper
half_outline Lower l = l.lower

abbrev pub outline : Height → ℕ → List ℕ
outline h c = half_outline h (letter_drawn c)

-- The path of an SVG picture, read from the left upper corner of a cell: `m` begins a loop, `h` and `v` draw a line along and
-- down, `z` closes the loop; all numbers count from where the pen is.

-- a line up or down: its place across, and where it begins and ends
pub record UprightLine : Type 0 where
  pub at : ℕ
  pub from : ℕ
  pub to : ℕ

abbrev pub upright : ℕ → ℕ → ℕ → UprightLine
upright at from to = record { at = at; from = from; to = to }

-- what was read: the command that isn't done yet, its numbers, and whether each goes back; where the pen is and where its loop
-- began; the lines up and down; and whether all of it was understood
pub record PathReader : Type 0 where
  pub command : ℕ
  pub first : ℕ
  pub first_back : Bool
  pub last : ℕ
  pub last_back : Bool
  pub x : ℕ
  pub y : ℕ
  pub start_x : ℕ
  pub start_y : ℕ
  pub lines : List UprightLine
  pub clear : Bool

abbrev pub unread_path : PathReader
unread_path = record {
  command = 0;
  first = 0;
  first_back = false;
  last = 0;
  last_back = false;
  x = 0;
  y = 0;
  start_x = 0;
  start_y = 0;
  lines = [];
  clear = true;
}

abbrev pub pen_goes : Bool → ℕ → ℕ → ℕ
pen_goes true n at = at - n
pen_goes false n at = at + n

-- the pen stays to the right of the cell's corner, and below it
abbrev pub pen_stays : Bool → ℕ → ℕ → Bool
pen_stays true n at = nat_le n at
pen_stays false n at = true

abbrev pub is_at_start : PathReader → Bool
is_at_start p = p.x == p.start_x && p.y == p.start_y

-- a loop begins where the one before is closed
abbrev pub loop_begun : PathReader → ℕ → ℕ → PathReader
loop_begun p x y = record p {
  x = x;
  y = y;
  start_x = x;
  start_y = y;
  clear = p.clear && (is_at_start p && (pen_stays p.first_back p.first p.x && pen_stays p.last_back p.last p.y));
}

abbrev pub gone_along : PathReader → PathReader
gone_along p = record p { x = pen_goes p.last_back p.last p.x; clear = p.clear && pen_stays p.last_back p.last p.x }

abbrev pub gone_down : PathReader → ℕ → PathReader
gone_down p y = record p { y = y; lines = upright p.x p.y y ∷ p.lines; clear = p.clear && pen_stays p.last_back p.last p.y }

-- by a line along or down
abbrev pub loop_closed : PathReader → PathReader
loop_closed p = record p {
  x = p.start_x;
  y = p.start_y;
  lines = upright p.x p.y p.start_y ∷ p.lines;
  clear = p.clear && (p.x == p.start_x || p.y == p.start_y);
}

abbrev pub command_done : PathReader → PathReader
command_done p =
    if p.command == 0x6D then loop_begun p (pen_goes p.first_back p.first p.x) (pen_goes p.last_back p.last p.y)
    else if p.command == 0x68 then gone_along p
    else if p.command == 0x76 then gone_down p (pen_goes p.last_back p.last p.y)
    else if p.command == 0x7A then loop_closed p
    else if p.command == 0 then p
    else record p { clear = false }

abbrev pub command_begun : PathReader → ℕ → PathReader
command_begun p b = record p { command = b; first = 0; first_back = false; last = 0; last_back = false }

-- a digit, `-`, a space between two numbers, or the next command
abbrev pub path_byte : PathReader → ℕ → PathReader
path_byte p b =
    if nat_le 0x30 b && nat_le b 0x39 then record p { last = 10 * p.last + (b - 0x30) }
    else if b == 0x2D then record p { last_back = true }
    else if b == 0x20 then record p { first = p.last; first_back = p.last_back; last = 0; last_back = false }
    else command_begun (command_done p) b

abbrev pub path_read : PathReader → List ℕ → PathReader
path_read p [] = command_done p
path_read p (b ∷ bs) = path_read (path_byte p b) bs

abbrev pub upright_lines : List ℕ → List UprightLine
upright_lines bs = (path_read unread_path bs).lines

-- all commands are known, and all loops are closed
abbrev pub is_outline : List ℕ → Bool
is_outline bs = (path_read unread_path bs).clear && is_at_start (path_read unread_path bs)

-- What is inside: around the middle of a unit the lines turn more often one way than the other.

abbrev pub crosses : UprightLine → ℕ → Bool
crosses l y = nat_le l.from y && nat_lt y l.to || nat_le l.to y && nat_lt y l.from

-- the lines that cross row y
abbrev pub crossing : List UprightLine → ℕ → List UprightLine
crossing [] y = []
crossing (l ∷ ls) y = if crosses l y then l ∷ crossing ls y else crossing ls y

-- how many at or to the left of x go down, or up
abbrev pub downs : List UprightLine → ℕ → ℕ
downs [] x = 0
downs (l ∷ ls) x = (if nat_le l.at x && nat_lt l.from l.to then 1 else 0) + downs ls x

abbrev pub ups : List UprightLine → ℕ → ℕ
ups [] x = 0
ups (l ∷ ls) x = (if nat_le l.at x && nat_lt l.to l.from then 1 else 0) + ups ls x

abbrev pub turns_around : List UprightLine → ℕ → Bool
turns_around ls x = not (downs ls x == ups ls x)

-- the unit in column x and row y is inside
abbrev pub is_inside : List ℕ → ℕ → ℕ → Bool
is_inside bs x y = turns_around (crossing (upright_lines bs) y) x
