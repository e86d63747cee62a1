-- The least start that shows why a frame isn't clean.
use Rattle.std.specs.Prelude.{◌≡◌, ℕ, ◌<◌, ◌+◌, ◌*◌, Bool, List, Option, Some, None, ◌/◌, ◌%◌, ◌==◌, ◌&&◌, length, slice_index, nat_lt, option_map}
use Rattle.std.specs.Int.{from_bool}
use Rattle.frame_records.specs.declared.frame.Lead.{Lead}
use Rattle.terminal_codes.specs.declared.caret.Caret.{Caret}
use Rattle.terminal_codes.specs.Bodies.{IsClean, IsFirstTouch, StartTouches, sent}
use Rattle.abstract_paint.specs.declared.start.Start.{Start}
use Rattle.std.specs.List.{find, range_with_len}
use Rattle.terminal_codes.specs.Writes.{touches, caret_run}
use Rattle.abstract_paint.specs.declared.painting.Painted.{Painted}
use Rattle.abstract_paint.specs.declared.painting.Painted.TheVariants.{Clean, Touches}

-- the caret at a position with a pending flag
abbrev pub caret_at : ℕ → Bool → Caret
caret_at p q = record { at = p; pending = q }

-- the starts in order: by position, then not pending before pending
abbrev pub start_number : Caret → ℕ
start_number c = 2 * c.at + from_bool c.pending

-- the least of the starts that touch at its offset
pub record IsLeastAtOffset (lead : Lead) (body : List ℕ) (s : Start) : Type 0 where
  pub on_screen : s.at < 960
  pub touch : StartTouches lead body s.offset (caret_at s.at s.pending)
  pub least : (c : Caret) → start_number c < start_number (caret_at s.at s.pending) → StartTouches lead body s.offset c → ⊥

-- the least start that touches at the first offset at which some terminal does
pub record IsLeastStart (lead : Lead) (body : List ℕ) (s : Start) : Type 0 where
  pub offset : IsFirstTouch lead body s.offset
  pub start : IsLeastAtOffset lead body s

-- none, of a clean frame; else the least start
abbrev pub IsStart : Lead → List ℕ → Option Start → Type 0
IsStart lead body None = IsClean lead body
IsStart lead body (Some s) = IsLeastStart lead body s

-- none, if no start touches at the offset; else the least that does
abbrev pub IsStartAt : Lead → List ℕ → ℕ → Option Start → Type 0
IsStartAt lead body i None = (c : Caret) → c.at < 960 → StartTouches lead body i c → ⊥
IsStartAt lead body i (Some s) = (s.offset ≡ i) × IsLeastAtOffset lead body s

-- at most one answer is right
abbrev pub StartsAreOne : Type 0
StartsAreOne = (lead : Lead) (body : List ℕ) (r s : Option Start) → IsStart lead body r → IsStart lead body s → r ≡ s

-- The least start, as it is computed.

-- the start of a number: its position is half the number, and an escape is pending if the number is odd
abbrev pub caret_numbered : ℕ → Caret
caret_numbered n = record { at = n / 2; pending = n % 2 == 1 }

-- the same, with the offset
abbrev pub start_numbered : ℕ → ℕ → Start
start_numbered i n = record { at = n / 2; pending = n % 2 == 1; offset = i }

-- from this start the byte at i writes a service position
abbrev pub start_touches : Lead → List ℕ → ℕ → Caret → Bool
start_touches lead body i c = nat_lt i (length body) && touches (caret_run c (sent lead body i)) (slice_index body i)

-- the number of the first of all 1,920 starts from which the byte at i does
unfoldable pub least_number : Lead → List ℕ → ℕ → Option ℕ
least_number lead body i = find (λ n. start_touches lead body i (caret_numbered n)) (range_with_len 0 1920)

-- the least start itself
abbrev pub start_at : Lead → List ℕ → ℕ → Option Start
start_at lead body i = option_map (start_numbered i) (least_number lead body i)

-- none of a clean frame
abbrev pub start_of : Lead → List ℕ → Painted → Option Start
start_of lead body (Clean cursor) = None
start_of lead body (Touches i) = start_at lead body i
