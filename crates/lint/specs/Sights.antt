-- What one sees of a frame alone, on a cleared screen, if its codes show that an escape or a menu may be among it.
use Rattle.std.specs.Prelude.{ℕ, ◌+◌, ◌-◌, ◌%◌, Bool, false, ◌==◌, ◌&&◌, ◌||◌, not, nat_le, if◌then◌else◌, List, [], ◌∷◌, Option, Some, None, slice_get}
use Rattle.std.specs.Char.{is_ascii_digit}
use Rattle.std.specs.List.{list_any}
use Rattle.page_ids.specs.Ids.{Id}
use Rattle.frame_records.specs.declared.frame.Frame.{Frame}
use Rattle.terminal_codes.specs.Screen.{CaretView, run}
use Rattle.terminal_codes.specs.Writes.{caret_step}
use Rattle.screens.specs.declared.look.Look.{Look as Cell}
use Rattle.screens.specs.Looks.{looks}
use Rattle.lint.specs.declared.looks.Look.{Look}
use Rattle.lint.specs.declared.sights.Digits.{Digits}
use Rattle.lint.specs.Looks.{blank}
use Rattle.lint.specs.Offers.{has_route, menu_of, offers_from, shown_from}

-- The screen.

-- its cells: a line feed leaves a new terminal where a cleared one is
abbrev pub cells_alone : Frame → List ℕ
cells_alone f = (run (run blank (0x0A ∷ [])) f.body).cells

abbrev pub sights_on : Frame → List ℕ → List (List Cell) → List (Id × Look)
sights_on f cells rows = offers_from f (menu_of rows) (shown_from f cells [] 0 rows) (menu_of rows)

-- Frames of which one has to see the screen, by their bytes.

-- the byte may show this character of ASCII
abbrev pub may_show : ℕ → ℕ → Bool
may_show c b = b % 128 == c

-- the byte may show a digit that has a route, or one that has none
abbrev pub may_show_routed : Frame → ℕ → Bool
may_show_routed f b = is_ascii_digit (b % 128) && has_route f (b % 128 - 0x30)

abbrev pub may_show_unrouted : Frame → ℕ → Bool
may_show_unrouted f b = is_ascii_digit (b % 128) && not (has_route f (b % 128 - 0x30))

abbrev pub holds_routed : Frame → List ℕ → Bool
holds_routed f body = list_any (may_show_routed f) body

abbrev pub holds_unrouted : Frame → List ℕ → Bool
holds_unrouted f body = list_any (may_show_unrouted f) body

abbrev pub holds_u : List ℕ → Bool
holds_u body = list_any (may_show 0x75) body

-- without a u it shows no escape, and without digits of both kinds it has no menu that offers too much
abbrev pub may_have_sights : Frame → Bool
may_have_sights f = holds_u f.body || (holds_routed f f.body && holds_unrouted f f.body)

-- By the cells too: after the digit of a menu line there is a gap.

abbrev pub is_gap_code : ℕ → Bool
is_gap_code c = nat_le c 0x20 || nat_le 0x80 c

abbrev pub is_some_gap : Option ℕ → Bool
is_some_gap (Some c) = is_gap_code c
is_some_gap None = false

-- a space or an attribute is in the cell after a position
abbrev pub is_before_gap : List ℕ → ℕ → Bool
is_before_gap cells at = is_some_gap (slice_get cells (at + 1))

abbrev pub with_byte : Frame → Digits → ℕ → Digits
with_byte f d b = record {
  routed = d.routed || may_show_routed f b;
  two_routed = d.two_routed || (d.routed && may_show_routed f b);
  unrouted = d.unrouted || may_show_unrouted f b;
}

abbrev pub digits_from : Frame → List ℕ → CaretView → Digits → List ℕ → Digits
digits_from f cells c d [] = d
digits_from f cells c d (b ∷ bs) =
    digits_from f cells (caret_step c b) (if is_before_gap cells c.at then with_byte f d b else d) bs

-- the digits that bytes of a body write before a gap
abbrev pub digits_before_gaps : Frame → List ℕ → Digits
digits_before_gaps f cells =
    digits_from f cells (record { at = 40; pending = false }) (record { routed = false; two_routed = false; unrouted = false }) f.body

-- a menu that offers too much has two lines with a route, and one without
abbrev pub may_offer : Digits → Bool
may_offer d = d.two_routed && d.unrouted

abbrev pub needs_looks : Frame → List ℕ → Bool
needs_looks f cells = holds_u f.body || may_offer (digits_before_gaps f cells)

abbrev pub sights_of : Frame → List ℕ → List (Id × Look)
sights_of f cells = if needs_looks f cells then sights_on f cells (looks cells) else []

-- what may be wrong with what one sees
abbrev pub sights_if : Frame → List (Id × Look)
sights_if f = if may_have_sights f then sights_of f (cells_alone f) else []
