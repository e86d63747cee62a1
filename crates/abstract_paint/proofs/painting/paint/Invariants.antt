use Rattle.std.proofs.Common.{◌≡◌, ◌-◌, ◌≤◌, length, drop}
use Rattle.abstract_paint.specs.Paint.{OnScreen, paint_from, paint_of}
use Rattle.abstract_paint.proofs.painting.paint.Given as goal

abbrev pub invariant-loop-done : goal.invariant-loop-done
invariant-loop-done l = record {
  within : l.done ≤ length l.body;
  on_screen : OnScreen l.cursor.place;
  same : paint_from l.cursor l.done (drop l.done l.body) ≡ paint_of l.fn.lead l.body;
}

abbrev pub decreases-loop-done : goal.decreases-loop-done
decreases-loop-done l = length l.body - l.done
