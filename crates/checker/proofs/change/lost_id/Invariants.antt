use Rattle.checker.proofs.Places.{AreBeside}
use Rattle.checker.proofs.change.lost_id.Given as goal

abbrev pub invariant-loop-i : goal.invariant-loop-i
invariant-loop-i g l = AreBeside (g.C.Cover.rows l.old) (g.C.Cover.rows l.new) l.i l.at
