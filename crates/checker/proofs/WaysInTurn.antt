-- The results of the ways of a frame, one after another.
use Rattle.std.proofs.Common.{◌≡◌, ℕ, ◌+◌, Bool, true, false, not, ◌||◌, List, [], ◌∷◌, ◌++◌, Option, Some, None, refl, sym, ◌∙◌, ap, arith, is_some, if◌then◌else◌, cond, option_map}
use Rattle.std.specs.Prelude.{find}
use Rattle.std.specs.Option.{option_or}
use Rattle.std.specs.List.{list_any}
use Rattle.std.proofs.lemmas.List.Folds.{find-append, list_any-append}
use Rattle.std.proofs.lemmas.List.FromFn.{map-range_with_len_more, sum_by-map-range_with_len_more}
use Rattle.page_ids.specs.Ids.{Id}
use Rattle.page_ids.specs.declared.way.Way.{Way}
use Rattle.page_ids.specs.Ways.{way_at, ways}
use Rattle.frame_records.specs.declared.frame.Frame.{Frame}
use Rattle.frame_records.specs.Bases.{BaseView}
use Rattle.cert_table.specs.declared.row.Row.{Row}
use Rattle.checker.specs.declared.ways.WayCheck.{WayCheck}
use Rattle.checker.specs.declared.ways.WayChecks.{WayChecks}
use Rattle.checker.specs.declared.verdict.Cause.{Cause}
use Rattle.checker.specs.Conditions.{◌otherwise◌, first_among}
use Rattle.checker.specs.Good.{LeadsDown}
use Rattle.checker.specs.Verdict.{way_on, way_down, is_down, lost_cause, on_way, on_rank, on_ways}
use Rattle.checker.specs.Counts.{way_compared}
use Rattle.checker.specs.Loops.{first_ways, IsWayCheck, AreWayChecks}

first_more : (n : ℕ) → first_ways (n + 1) ≡ first_ways n ++ way_at n ∷ []
first_more n = map-range_with_len_more way_at 0 n n (omega arith)

-- the first of some ways and one more
lost_more : (lost : Option Way) (on : Bool) (way : Way) → (if is_some lost then lost else if on then None else Some way) ≡ option_or lost (cond (not on) (Some way) None)
lost_more None true way = refl
lost_more None false way = refl
lost_more (Some w) on way = refl

any_more : (a b : Bool) → (a || b) ≡ (a || (b || false))
any_more true b = refl
any_more false true = refl
any_more false false = refl

module _ (compared : List Row → Id → ℕ) (base : BaseView) (rows : List Row) (rank : ℕ) (f : Frame) (n : ℕ) (seen new : WayChecks) (check : WayCheck) where
  -- one way more
  pub next_way : AreWayChecks compared base rows rank f n seen → IsWayCheck compared base rows rank f (way_at n) check → new.lost ≡ (if is_some seen.lost then seen.lost else if check.leads_on then None else Some (way_at n)) → new.down ≡ (seen.down || check.down) → new.asked ≡ seen.asked + check.asked → AreWayChecks compared base rows rank f (n + 1) new
  next_way before is lost down asked =
      let test = λ (way : Way). not (way_on base rows f way) in
      let taken = sum_by-map-range_with_len_more (way_compared compared base rows f) way_at 0 n n (omega arith) in
      record {
        lost = lost ∙ lost_more seen.lost check.leads_on (way_at n) ∙ rw (before.lost, is.leads_on) (sym (find-append test (first_ways n) (way_at n ∷ []))) ∙ ap (find test) (sym (first_more n));
        down = down ∙ any_more seen.down check.down ∙ rw (before.down, is.down) (sym (list_any-append (way_down rows rank f) (first_ways n) (way_at n ∷ []))) ∙ ap (list_any (way_down rows rank f)) (sym (first_more n));
        took = omega (arith, asked, taken, before.took, is.took);
      }

one_lost : (id : Id) (way : Way) (on : Bool) (o : Option Cause) (lost : Option Way) → o ≡ option_map (lost_cause id) lost → ((if on then None else Some (lost_cause id way)) otherwise o) ≡ option_map (lost_cause id) (cond (not on) (Some way) lost)
one_lost id way true o lost e = e
one_lost id way false o lost e = refl

-- the first cause among the ways is that of the first that leads nowhere
pub first_lost : (base : BaseView) (rows : List Row) (row : Row) (f : Frame) (ws : List Way) → first_among (on_way base rows row f) ws ≡ option_map (lost_cause row.id) (find (λ way. not (way_on base rows f way)) ws)
first_lost base rows row f [] = refl
first_lost base rows row f (way ∷ ws) = one_lost row.id way (way_on base rows f way) _ _ (first_lost base rows row f ws)

pub by_ways : (base : BaseView) (rows : List Row) (row : Row) (f : Frame) (lost : Option Way) (down : Bool) → lost ≡ find (λ way. not (way_on base rows f way)) ways → down ≡ is_down rows row.rank f → (option_map (lost_cause row.id) lost otherwise (on_rank base row.id row.rank down (down ≡ true)).first_cause) ≡ (on_ways base rows row f).first_cause
by_ways base rows row f lost down is by =
    rw (is, by) (ap (λ (o : Option Cause). o otherwise (on_rank base row.id row.rank (is_down rows row.rank f) (LeadsDown rows f row.rank)).first_cause) (sym (first_lost base rows row f ways)))
