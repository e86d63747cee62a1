use Rattle.abstract_paint.specs.Paint.{OnScreen}
use Rattle.run_bench.proofs.by_bytes.paint_by_bytes.Given as goal

abbrev pub invariant-loop-i : goal.invariant-loop-i
invariant-loop-i l = OnScreen l.cursor.place
