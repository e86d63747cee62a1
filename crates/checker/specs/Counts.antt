-- What a check compares and paints, and its bounds.
use Rattle.std.specs.Prelude.{ℕ, ◌+◌, Bool, List, [], ◌∷◌, Option, Some, None, length, is_none, if◌then◌else◌, ◌≡◌, ◌≤◌, ◌*◌, is_some}
use Rattle.std.specs.List.{sum_by}
use Rattle.page_ids.specs.Ids.{Id}
use Rattle.page_ids.specs.declared.way.Way.{Way}
use Rattle.page_ids.specs.declared.way.Way.TheVariants.{Route, Next}
use Rattle.page_ids.specs.Ways.{ways}
use Rattle.frame_records.specs.declared.frame.Frame.{Frame}
use Rattle.frame_records.specs.Bases.{BaseView, frame_at, frames_compared, pages_compared}
use Rattle.frame_records.specs.Seek.{entry_of}
use Rattle.frame_records.specs.Ways.{sought}
use Rattle.cert_table.specs.declared.row.Row.{Row}
use Rattle.cert_table.specs.Table.{CertView}
use Rattle.checker.specs.declared.policy.Policy.{Policy}
use Rattle.checker.specs.declared.verdict.Cause.{Cause}
use Rattle.checker.specs.Conditions.{◌then◌}
use Rattle.checker.specs.Good.{is_row_of}
use Rattle.checker.specs.Verdict.{on_terms, on_head, on_frame, on_painting, on_row}
use Rattle.std.specs.Int.{from_bool}
use Rattle.checker.specs.declared.count.Count.{Count}
use Rattle.checker.specs.declared.verdict.Verdict.{Verdict}
use Rattle.checker.specs.declared.verdict.Verdict.TheVariants.{Cleared}

-- What a check takes, exactly: how many entries its look-ups compare, and how many bytes of bodies it paints. How many rows a
-- look-up of an id compares is the cover's, and so a parameter. The caller is the list of the groups to which the caller
-- belongs.

-- this many, if it is done
abbrev pub counted_if : Bool → ℕ → ℕ
counted_if done n = if done then n else 0

-- the entry frame is looked up if K1 to K3 and K15 hold
abbrev pub is_entry_sought : BaseView → Policy → CertView → Bool
is_entry_sought base policy cert = is_none (on_terms base policy cert).first_cause

-- the body of a row's frame is painted if K6 to K8 hold
abbrev pub is_painted : List ℕ → CertView → Row → Frame → Bool
is_painted caller cert row f = is_none (on_frame caller cert row f).first_cause

-- its ways are looked up if K6 to K10 hold
abbrev pub are_ways_sought : List ℕ → CertView → Row → Frame → Bool
are_ways_sought caller cert row f = is_none (on_frame caller cert row f then on_painting row f).first_cause

-- how many outside pages are compared with the page of a way whose frame has no row: none for next
abbrev pub outside_compared : BaseView → Way → ℕ → ℕ
outside_compared base (Route digit) page = pages_compared base.outside page
outside_compared base Next page = 0

-- what is compared for the frame that a way seeks: rows, and outside pages if it has no row
abbrev pub offered_compared : (List Row → Id → ℕ) → BaseView → List Row → Way → Option Id → ℕ
offered_compared compared base rows way None = 0
offered_compared compared base rows way (Some to) = compared rows to + (if is_row_of rows to then 0 else outside_compared base way to.page)

-- what is compared for a way of a frame
abbrev pub way_compared : (List Row → Id → ℕ) → BaseView → List Row → Frame → Way → ℕ
way_compared compared base rows f way = offered_compared compared base rows way (sought f way)

-- for all of them
abbrev pub ways_compared : (List Row → Id → ℕ) → BaseView → List Row → Frame → ℕ
ways_compared compared base rows f = sum_by (way_compared compared base rows f) ways

-- what is compared for a row: frames with its id, and what its frame's ways take
abbrev pub found_probes : (List Row → Id → ℕ) → List ℕ → BaseView → CertView → Row → Option Frame → ℕ
found_probes compared caller base cert row None = 0
found_probes compared caller base cert row (Some f) = counted_if (are_ways_sought caller cert row f) (ways_compared compared base cert.rows f)

abbrev pub row_probes : (List Row → Id → ℕ) → List ℕ → BaseView → CertView → Row → ℕ
row_probes compared caller base cert row = frames_compared base.frames row.id + found_probes compared caller base cert row (frame_at base row.id)

-- the bytes that are painted for a row
abbrev pub found_steps : List ℕ → CertView → Row → Option Frame → ℕ
found_steps caller cert row None = 0
found_steps caller cert row (Some f) = counted_if (is_painted caller cert row f) (length f.body)

abbrev pub row_steps : List ℕ → BaseView → CertView → Row → ℕ
row_steps caller base cert row = found_steps caller cert row (frame_at base row.id)

-- the rest, unless there was a fault
abbrev pub rows_unless_fault : Option Cause → List Row → List Row
rows_unless_fault None rows = rows
rows_unless_fault (Some c) rows = []

-- the rows that are judged: up to and with the first at fault
abbrev pub rows_judged : List ℕ → BaseView → CertView → List Row → List Row
rows_judged caller base cert [] = []
rows_judged caller base cert (row ∷ rows) = row ∷ rows_unless_fault (on_row caller base cert row).first_cause (rows_judged caller base cert rows)

-- those that a check judges: none if K1 to K3, K15 or K4 refuse the certificate
abbrev pub judged_rows : BaseView → Policy → CertView → List Row
judged_rows base policy cert = rows_unless_fault (on_head base policy cert).first_cause (rows_judged cert.groups base cert cert.rows)

-- how many entries a check compares: rows with the entry frame's id, and what each row takes that it judges
abbrev pub probes_of : (List Row → Id → ℕ) → BaseView → Policy → CertView → ℕ
probes_of compared base policy cert =
    counted_if (is_entry_sought base policy cert) (compared cert.rows (entry_of base))
    + sum_by (row_probes compared cert.groups base cert) (judged_rows base policy cert)

-- how many bytes of bodies a check paints
abbrev pub steps_of : BaseView → Policy → CertView → ℕ
steps_of base policy cert = sum_by (row_steps cert.groups base cert) (judged_rows base policy cert)

-- Bounds of how much a check compares, and of how much it paints. The exact numbers are `probes_of` and `steps_of`.

-- how many ways a frame offers: its routes, and next
abbrev pub ways_of : Frame → ℕ
ways_of f = sum_by (λ way. from_bool (is_some (sought f way))) ways

abbrev pub ways_if : Option Frame → ℕ
ways_if None = 0
ways_if (Some f) = ways_of f

-- the ways of a row's frame
abbrev pub ways_at : BaseView → Row → ℕ
ways_at base row = ways_if (frame_at base row.id)

abbrev pub bytes_if : Option Frame → ℕ
bytes_if None = 0
bytes_if (Some f) = length f.body

-- the bytes of the body of a row's frame
abbrev pub bytes_at : BaseView → Row → ℕ
bytes_at base row = bytes_if (frame_at base row.id)

-- the most that is compared for a row: 16 for its frame, 16 for each of ten outside pages, and for each of its eleven ways
-- as much as one look-up among the rows
abbrev pub row_most : ℕ → ℕ
row_most m = 176 + 11 * m

-- what a check took, if one look-up among the rows compares at most m. The 16 is room for a look-up of the entry frame
-- in the base, which the check doesn't make
pub record IsCount (base : BaseView) (rows : List Row) (m : ℕ) (v : Verdict) (count : Count) : Type 0 where
  pub most : count.probes ≤ row_most m * length rows + m + 16
  pub least : v ≡ Cleared → 1 + length rows + sum_by (ways_at base) rows ≤ count.probes
  pub within : count.steps ≤ sum_by (bytes_at base) rows
  pub all : v ≡ Cleared → count.steps ≡ sum_by (bytes_at base) rows
