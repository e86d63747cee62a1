-- Facts that hold between the turns of loops, and what functions that aren't exported say. No promise rests on them.
use Rattle.std.specs.Prelude.{◌≡◌, ◌<◌, ℕ, false, List, length, get_or, ◌+◌, Bool, not, find, map}
use Rattle.std.specs.Ordering.{is_lt}
use Rattle.std.specs.declared.cmp.Ordering.TheVariants.{Less}
use Rattle.page_ids.specs.Ids.{Id, id_cmp}
use Rattle.cert_table.specs.declared.row.Row.{Row}
use Rattle.std.specs.List.{list_any, sum_by, range_with_len}
use Rattle.page_ids.specs.declared.way.Way.{Way}
use Rattle.page_ids.specs.declared.way.Way.TheVariants.{Route, Next}
use Rattle.page_ids.specs.Ways.{way_at}
use Rattle.frame_records.specs.declared.frame.Frame.{Frame}
use Rattle.frame_records.specs.Bases.{BaseView, lists_outside}
use Rattle.checker.specs.declared.ways.WayCheck.{WayCheck}
use Rattle.checker.specs.declared.ways.WayChecks.{WayChecks}
use Rattle.checker.specs.Verdict.{way_on, way_down}
use Rattle.checker.specs.Counts.{outside_compared, way_compared}

-- Where an id has its place among rows in the order of their ids.

-- the rows in front of a place have smaller ids
abbrev pub AreBelow : List Row → ℕ → Id → Type 0
AreBelow rows at id = (k : ℕ) (d : Row) → k < at → k < length rows → id_cmp (get_or rows k d).id id ≡ Less

-- those in front of it have smaller ids, and the row there, if there is one, hasn't
pub record IsPlaceOf (rows : List Row) (id : Id) (at : ℕ) : Type 0 where
  pub below : AreBelow rows at id
  pub here : (d : Row) → at < length rows → is_lt (id_cmp (get_or rows at d).id id) ≡ false

-- The results of the ways of a frame among the rows, for a row of some rank.

-- whether a way leads to an outside page
abbrev pub is_outside : BaseView → Way → ℕ → Bool
is_outside base (Route digit) page = lists_outside base page
is_outside base Next page = false

-- a way whose frame has no row, for which this many rows were compared
pub record IsAbsent (base : BaseView) (way : Way) (page asked : ℕ) (check : WayCheck) : Type 0 where
  pub leads_on : check.leads_on ≡ is_outside base way page
  pub down : check.down ≡ false
  pub took : check.asked ≡ asked + outside_compared base way page

-- the result of a way
pub record IsWayCheck (compared : List Row → Id → ℕ) (base : BaseView) (rows : List Row) (rank : ℕ) (f : Frame) (way : Way) (check : WayCheck) : Type 0 where
  pub leads_on : check.leads_on ≡ way_on base rows f way
  pub down : check.down ≡ way_down rows rank f way
  pub took : check.asked ≡ way_compared compared base rows f way

-- the first n ways
abbrev pub first_ways : ℕ → List Way
first_ways n = map way_at (range_with_len 0 n)

-- the results of the first n ways
pub record AreWayChecks (compared : List Row → Id → ℕ) (base : BaseView) (rows : List Row) (rank : ℕ) (f : Frame) (n : ℕ) (seen : WayChecks) : Type 0 where
  pub lost : seen.lost ≡ find (λ way. not (way_on base rows f way)) (first_ways n)
  pub down : seen.down ≡ list_any (way_down rows rank f) (first_ways n)
  pub took : seen.asked ≡ sum_by (way_compared compared base rows f) (first_ways n)
