use Rattle.std.proofs.Common.{◌≡◌, ◌∙◌, sym, ap, Some, None, arith}
use Rattle.indexmap.specs.IndexSet.{insert_all}
use Rattle.page_ids.specs.Ids.{id_eq}
use Rattle.page_ids.specs.Ways.{way_at}
use Rattle.frame_records.specs.Ways.{sought}
use Rattle.base_map.proofs.WaySteps.{sought_more}
use Rattle.base_map.proofs.targets.targets_of.Goals.{in-Some+in_ok-insert-in-Some, in-None}
use Rattle.base_map.proofs.targets.targets_of.Goals as goal

pub loop-place-preserved : goal.loop-place-preserved
loop-place-preserved c =
    let f = c.args.frame.now in
    let n = c.loop-place.place in
    let old = c.loop-place.targets.keys in
    elim c.match-sought.branch [
      | in-Some+in_ok-insert-in-Some w ↦
          let e : sought f (way_at n) ≡ Some w.in-Some.to = ap (sought f) (sym c.at.ensures) ∙ (sym c.sought.ensures ∙ w.in-Some.is) in
          rw (w.targets-is, w.in_ok-insert-in-Some.ensures.keys)
          (ap (insert_all id_eq old) (sym (sought_more f n (Some w.in-Some.to) (omega (arith, c.loop-place-test.true)) e)) ∙ c.loop-place.invariant)
      | in-None w ↦
          let e : sought f (way_at n) ≡ None = ap (sought f) (sym c.at.ensures) ∙ (sym c.sought.ensures ∙ w.in-None.is) in
          rw w.targets-is (ap (insert_all id_eq old) (sym (sought_more f n None (omega (arith, c.loop-place-test.true)) e)) ∙ c.loop-place.invariant)
    ]
