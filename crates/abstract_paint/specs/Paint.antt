-- Abstract cursors, and painting a frame with one.
use Rattle.std.specs.Prelude.{◌≡◌, ℕ, ◌%◌, ◌<◌, ◌↔◌, ◌==◌, ◌&&◌, not, Bool, true, false, List, nat_lt, ◌+◌, Option, Some, None, if◌then◌else◌, [], ◌∷◌, ◌++◌, length, nat_le}
use Rattle.frame_records.specs.declared.frame.Lead.{Lead}
use Rattle.terminal_codes.specs.Bodies.{EndsAt, IsClean, IsFirstTouch}
use Rattle.abstract_paint.specs.declared.cursor.Place.{Place}
use Rattle.abstract_paint.specs.declared.cursor.Place.TheVariants.{Any, Col, Spot}
use Rattle.abstract_paint.specs.declared.cursor.Pend.{Pend}
use Rattle.abstract_paint.specs.declared.cursor.Pend.TheVariants.{No, Yes, Maybe}
use Rattle.abstract_paint.specs.declared.cursor.AbsCursor.{AbsCursor}
use Rattle.frame_records.specs.declared.frame.Lead.TheVariants.{Clear, Keep}
use Rattle.terminal_codes.specs.Screen.{moved, code_of}
use Rattle.terminal_codes.specs.Writes.{is_service}
use Rattle.abstract_paint.specs.declared.painting.Painted.{Painted}
use Rattle.abstract_paint.specs.declared.painting.Painted.TheVariants.{Clean, Touches}

-- Abstract cursors, and what they represent.

-- the place has the position
abbrev pub PlaceStands : Place → ℕ → Type 0
PlaceStands Any p = Unit {0}
PlaceStands (Col c) p = p % 40 ≡ c
PlaceStands (Spot s) p = p ≡ s

-- the pending flag can be this one
abbrev pub PendStands : Pend → Bool → Type 0
PendStands No q = q ≡ false
PendStands Yes q = q ≡ true
PendStands Maybe q = Unit {0}

-- the cursor stands for the position and the flag
pub record Stands (x : AbsCursor) (p : ℕ) (q : Bool) : Type 0 where
  pub within : p < 960
  pub place : PlaceStands x.place p
  pub pend : PendStands x.pend q

-- a column is below 40, a spot below 960
abbrev pub OnScreen : Place → Type 0
OnScreen Any = Unit {0}
OnScreen (Col c) = c < 40
OnScreen (Spot s) = s < 960

-- the same as a test: the place has the position
abbrev pub place_test : Place → ℕ → Bool
place_test Any p = true
place_test (Col c) p = p % 40 == c
place_test (Spot s) p = p == s

-- the pending flag can be this one
abbrev pub pend_test : Pend → Bool → Bool
pend_test No q = not q
pend_test Yes q = q
pend_test Maybe q = true

-- the cursor stands for the position and the flag
abbrev pub stands : AbsCursor → ℕ → Bool → Bool
stands x p q = nat_lt p 960 && (place_test x.place p && pend_test x.pend q)

-- the cursor stands for exactly the ends of the body sent after its lead
abbrev pub Ends : Lead → List ℕ → AbsCursor → Type 0
Ends lead body x = (p : ℕ) (q : Bool) → p < 960 → Stands x p q ↔ EndsAt lead body p q

-- at most one cursor does
abbrev pub EndsAreOne : Type 0
EndsAreOne = (lead : Lead) (body : List ℕ) (x y : AbsCursor) → Ends lead body x → Ends lead body y → x ≡ y

-- the test is the meaning
abbrev pub StandsIsTest : Type 0
StandsIsTest = (x : AbsCursor) (p : ℕ) (q : Bool) → (stands x p q ≡ true) ↔ Stands x p q

-- a cursor stands for something if and only if its place is on the screen
abbrev pub ScreenIsStoodFor : Type 0
ScreenIsStoodFor = (x : AbsCursor) → OnScreen x.place ↔ ((p : ℕ) × (q : Bool) × Stands x p q)

-- a cursor that stands for the ends of some frame is on the screen
abbrev pub EndsAreOnScreen : Type 0
EndsAreOnScreen = (lead : Lead) (body : List ℕ) (x : AbsCursor) → Ends lead body x → OnScreen x.place

-- One abstract step, as it is computed.

-- any position: only the row's start (0D) and home (1E) settle it
abbrev pub any_moved : ℕ → Place
any_moved b = if b == 13 then Col 0 else if b == 30 then Spot 0 else Any

-- a column: back (08) and on (09) move it, the row's start (0D) and home (1E) settle it, up and down keep it
abbrev pub col_moved : ℕ → ℕ → Place
col_moved c b =
    if b == 8 then Col ((c + 39) % 40)
    else if b == 9 then Col ((c + 1) % 40)
    else if b == 13 then Col 0
    else if b == 30 then Spot 0
    else Col c

-- a place after a byte that moves
abbrev pub place_moved : Place → ℕ → Place
place_moved Any b = any_moved b
place_moved (Col c) b = col_moved c b
place_moved (Spot p) b = Spot (moved p b)

-- the place, no escape pending
abbrev pub calm : Place → AbsCursor
calm place = record { place = place; pend = No }

-- a byte from 00 to 1F: escape (1B), clear (0C), which touches, or a move
abbrev pub control_cursor : AbsCursor → ℕ → Option AbsCursor
control_cursor x b =
    if b == 27 then Some (record { place = x.place; pend = Yes })
    else if b == 12 then None
    else Some (calm (place_moved x.place b))

-- the code written; if the flag is open, that of no pending escape
abbrev pub code_by : Pend → ℕ → Option ℕ
code_by No b = code_of false b
code_by Yes b = code_of true b
code_by Maybe b = code_of false b

-- a code at a place: only a spot at which it doesn't count as written in a service row takes it
abbrev pub written_at : Place → ℕ → Option AbsCursor
written_at Any code = None
written_at (Col c) code = None
written_at (Spot p) code = if is_service p code then None else Some (calm (Spot (p + 1)))

-- a code at a place, if there is one
abbrev pub written_of : Place → Option ℕ → Option AbsCursor
written_of place None = Some (calm place)
written_of place (Some code) = written_at place code

-- the cursor after a byte, or none if the byte touches
abbrev pub cursor_step : AbsCursor → ℕ → Option AbsCursor
cursor_step x b = if nat_lt b 32 then control_cursor x b else written_of x.place (code_by x.pend b)

-- after the lead: a cleared screen below its first row, or any position, pending or not
abbrev pub lead_end : Lead → AbsCursor
lead_end Clear = record { place = Spot 40; pend = No }
lead_end Keep = record { place = Any; pend = Maybe }

-- Painting as one fold of the cursor, byte by byte, and what it means.

-- the byte at i touches, or painting goes on from the next cursor
abbrev pub or_touches : ℕ → (AbsCursor → Painted) → Option AbsCursor → Painted
or_touches i go None = Touches i
or_touches i go (Some y) = go y

-- the fold from a cursor, the first byte being the one at i
abbrev pub paint_from : AbsCursor → ℕ → List ℕ → Painted
paint_from x i [] = Clean x
paint_from x i (b ∷ bs) = or_touches i (λ y. paint_from y (i + 1) bs) (cursor_step x b)

-- the result of painting the body after its lead
abbrev pub paint_of : Lead → List ℕ → Painted
paint_of lead body = paint_from (lead_end lead) 0 body

-- clean, and the cursor stands for exactly the ends; or the first byte that touches
abbrev pub IsPainted : Lead → List ℕ → Painted → Type 0
IsPainted lead body (Clean x) = IsClean lead body × Ends lead body x
IsPainted lead body (Touches i) = IsFirstTouch lead body i

-- a fact of the cursor, if painting ends in one
abbrev pub IfClean : Painted → (AbsCursor → Type 0) → Type 0
IfClean (Clean x) P = P x
IfClean (Touches i) P = Unit {0}

-- a fact of the offset, if painting ends in one
abbrev pub IfTouches : Painted → (ℕ → Type 0) → Type 0
IfTouches (Clean x) P = Unit {0}
IfTouches (Touches i) P = P i

-- the result of painting, in both directions
pub record IsExact (lead : Lead) (body : List ℕ) : Type 0 where
  pub clean : (x : AbsCursor) → (paint_of lead body ≡ Clean x) ↔ (IsClean lead body × Ends lead body x)
  pub touches : (i : ℕ) → (paint_of lead body ≡ Touches i) ↔ IsFirstTouch lead body i
  pub some_cursor : IsClean lead body → (x : AbsCursor) × (paint_of lead body ≡ Clean x)

-- for every frame
abbrev pub PaintIsExact : Type 0
PaintIsExact = (lead : Lead) (body : List ℕ) → IsExact lead body

-- Codes written one after another from a spot.

-- a code that is written unchanged if no escape is pending: 20 to 7F, and the attributes 80 to 9F
abbrev pub is_cell_code : ℕ → Bool
is_cell_code b = nat_le 32 b && nat_lt b 160

-- the codes are such codes, and none of them, written in its turn from the position on, is in a service row
abbrev pub codes_fit : ℕ → List ℕ → Bool
codes_fit p [] = true
codes_fit p (c ∷ cs) = (is_cell_code c && not (is_service p c)) && codes_fit (p + 1) cs

-- codes that fit only move the spot on
abbrev pub CodesGoOn : Type 0
CodesGoOn =
    (codes rest : List ℕ) (p i : ℕ) →
    codes_fit p codes ≡ true →
    paint_from (calm (Spot p)) i (codes ++ rest) ≡ paint_from (calm (Spot (p + length codes))) (i + length codes) rest

-- a code that counts as written in a service row touches
abbrev pub CodeTouches : Type 0
CodeTouches =
    (code : ℕ) (rest : List ℕ) (p i : ℕ) →
    is_cell_code code ≡ true →
    is_service p code ≡ true →
    paint_from (calm (Spot p)) i (code ∷ rest) ≡ Touches i
