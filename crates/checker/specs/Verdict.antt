-- The conditions of the check, in order. The caller is the list of the groups to which the caller belongs.
use Rattle.std.specs.Prelude.{◌≡◌, ◌<◌, ℕ, Bool, true, false, ◌&&◌, ◌||◌, ◌==◌, List, Option, Some, None, nat_lt}
use Rattle.std.specs.List.{list_any}
use Rattle.std.specs.Str.{bytes_eq}
use Rattle.page_ids.specs.Ids.{Id, id_eq}
use Rattle.page_ids.specs.declared.way.Way.{Way}
use Rattle.page_ids.specs.declared.way.Way.TheVariants.{Route, Next}
use Rattle.page_ids.specs.Ways.{ways}
use Rattle.frame_records.specs.declared.frame.Frame.{Frame}
use Rattle.frame_records.specs.Bases.{BaseView, frame_at, lists_outside}
use Rattle.frame_records.specs.Seek.{is_open, entry_of}
use Rattle.frame_records.specs.Ways.{sought}
use Rattle.terminal_codes.specs.Bodies.{IsClean, IsFirstTouch}
use Rattle.abstract_paint.specs.declared.cursor.AbsCursor.{AbsCursor}
use Rattle.abstract_paint.specs.declared.cursor.Place.{Place}
use Rattle.abstract_paint.specs.declared.cursor.Place.TheVariants.{Any, Col, Spot}
use Rattle.abstract_paint.specs.declared.cursor.Pend.{Pend}
use Rattle.abstract_paint.specs.declared.cursor.Pend.TheVariants.{No, Yes, Maybe}
use Rattle.abstract_paint.specs.declared.painting.Painted.{Painted}
use Rattle.abstract_paint.specs.declared.painting.Painted.TheVariants.{Clean, Touches}
use Rattle.abstract_paint.specs.Paint.{Ends, paint_of}
use Rattle.cert_table.specs.declared.row.Row.{Row}
use Rattle.cert_table.specs.Table.{row_among, CertView}
use Rattle.checker.specs.declared.policy.Policy.{Policy}
use Rattle.checker.specs.declared.verdict.Cause.{Cause}
use Rattle.checker.specs.declared.verdict.Cause.TheVariants as cause
use Rattle.checker.specs.declared.verdict.Verdict.{Verdict}
use Rattle.checker.specs.declared.verdict.Verdict.TheVariants as verdicts
use Rattle.checker.specs.Conditions.{Condition, decided, must, must_pass, must_if, at_most, ◌then◌, each}
use Rattle.checker.specs.Good.{is_row_of, LeadsOn, LeadsDown}

-- the same cursor, as a test
abbrev pub same_place : Place → Place → Bool
same_place Any Any = true
same_place (Col c) (Col d) = c == d
same_place (Spot s) (Spot t) = s == t
same_place _ _ = false

abbrev pub same_pend : Pend → Pend → Bool
same_pend No No = true
same_pend Yes Yes = true
same_pend Maybe Maybe = true
same_pend _ _ = false

abbrev pub same_cursor : AbsCursor → AbsCursor → Bool
same_cursor x y = same_place x.place y.place && same_pend x.pend y.pend

-- the frame that a way seeks has a row; a route may also lead to an outside page
abbrev pub goes_on : BaseView → List Row → Way → Id → Bool
goes_on base rows (Route digit) to = lists_outside base to.page || is_row_of rows to
goes_on base rows Next to = is_row_of rows to

abbrev pub offered_on : BaseView → List Row → Way → Option Id → Bool
offered_on base rows way None = true
offered_on base rows way (Some to) = goes_on base rows way to

-- a way leads on, if the frame offers it
abbrev pub way_on : BaseView → List Row → Frame → Way → Bool
way_on base rows f way = offered_on base rows way (sought f way)

-- K11 of a route, K12 of next
abbrev pub lost_cause : Id → Way → Cause
lost_cause id (Route digit) = cause.RouteNotCovered id digit
lost_cause id Next = cause.NextNotCovered id

abbrev pub rank_below : ℕ → Option Row → Bool
rank_below rank None = false
rank_below rank (Some row) = nat_lt row.rank rank

abbrev pub offered_down : List Row → ℕ → Option Id → Bool
offered_down rows rank None = false
offered_down rows rank (Some to) = rank_below rank (row_among rows to)

-- a way leads to a row of lower rank
abbrev pub way_down : List Row → ℕ → Frame → Way → Bool
way_down rows rank f way = offered_down rows rank (sought f way)

-- some way does
abbrev pub is_down : List Row → ℕ → Frame → Bool
is_down rows rank f = list_any (way_down rows rank f) ways

-- K1 to K3 and K15
abbrev pub on_terms : BaseView → Policy → CertView → Condition
on_terms base policy cert =
    must (cert.entry == base.entry) (cert.entry ≡ base.entry) cause.EntryDiffers
    then at_most cert.ceiling policy.ceiling cause.CeilingAbove
    then at_most cert.keyings policy.keyings cause.KeyingsAbove
    then must (bytes_eq policy.groups cert.groups) (policy.groups ≡ cert.groups) cause.GroupsDiffer

-- those, and K4
abbrev pub on_head : BaseView → Policy → CertView → Condition
on_head base policy cert = on_terms base policy cert then must_pass (is_row_of cert.rows (entry_of base)) cause.EntryNotCovered

-- K6, K7 and K8: the frame by itself
abbrev pub on_frame : List ℕ → CertView → Row → Frame → Condition
on_frame caller cert row f =
    must_pass (is_open caller f) (cause.ClosedFrame row.id)
    then at_most f.price cert.ceiling (cause.Price row.id)
    then at_most row.rank cert.keyings (cause.RankAbove row.id)

-- K9, which names the first byte that touches
abbrev pub touched : Id → Painted → Option Cause
touched id (Touches offset) = Some (cause.Touches id offset)
touched id (Clean cursor) = None

abbrev pub on_touches : Row → Frame → Condition
on_touches row f = record {
  first_cause = touched row.id (paint_of f.lead f.body);
  Holds = IsClean f.lead f.body;
  FailsFor = λ c. (offset : ℕ) × (c ≡ cause.Touches row.id offset) × IsFirstTouch f.lead f.body offset;
}

abbrev pub ends_at : AbsCursor → Painted → Bool
ends_at cursor (Touches offset) = false
ends_at cursor (Clean end) = same_cursor end cursor

-- K9 and K10: the frame's painting
abbrev pub on_painting : Row → Frame → Condition
on_painting row f =
    on_touches row f
    then must (ends_at row.cursor (paint_of f.lead f.body)) (Ends f.lead f.body row.cursor) (cause.CursorDiffers row.id)

-- K11 or K12: a way, if the frame offers it
abbrev pub on_way : BaseView → List Row → Row → Frame → Way → Condition
on_way base rows row f way =
    decided (way_on base rows f way)
    ((to : Id) → sought f way ≡ Some to → LeadsOn base rows way to)
    ((to : Id) × (sought f way ≡ Some to) × (LeadsOn base rows way to → ⊥))
    (lost_cause row.id way)

-- K13 and K14, by whether some way leads down
abbrev pub on_rank : BaseView → Id → ℕ → Bool → Type 0 → Condition
on_rank base id rank down IsDown =
    must_if (rank == 0) (rank ≡ 0) (id_eq id (entry_of base)) (id ≡ entry_of base) (cause.RankZero id)
    then must_if (nat_lt 0 rank) (0 < rank) down IsDown (cause.NoWayDown id)

-- K11 to K14: the ways on from the frame
abbrev pub on_ways : BaseView → List Row → Row → Frame → Condition
on_ways base rows row f =
    each (on_way base rows row f) ways
    then on_rank base row.id row.rank (is_down rows row.rank f) (LeadsDown rows f row.rank)

-- K6 to K14
abbrev pub on_frame_of_row : List ℕ → BaseView → CertView → Row → Frame → Condition
on_frame_of_row caller base cert row f =
    on_frame caller cert row f
    then on_painting row f
    then on_ways base cert.rows row f

-- K5, then the rest
abbrev pub if_found : List ℕ → BaseView → CertView → Row → Option Frame → Condition
if_found caller base cert row None = must false ⊥ (cause.NoFrame row.id)
if_found caller base cert row (Some f) = on_frame_of_row caller base cert row f

abbrev pub on_row : List ℕ → BaseView → CertView → Row → Condition
on_row caller base cert row = if_found caller base cert row (frame_at base row.id)

abbrev pub on_rows : List ℕ → BaseView → CertView → List Row → Condition
on_rows caller base cert rows = each (on_row caller base cert) rows

-- all of them; the rows are judged for a caller of the certificate's groups
abbrev pub conditions : BaseView → Policy → CertView → Condition
conditions base policy cert = on_head base policy cert then on_rows cert.groups base cert cert.rows

abbrev pub verdict_of : Option Cause → Verdict
verdict_of None = verdicts.Cleared
verdict_of (Some c) = verdicts.Refused c

-- Cleared, or the first condition that fails
abbrev pub verdict : BaseView → Policy → CertView → Verdict
verdict base policy cert = verdict_of (conditions base policy cert).first_cause
