use Rattle.checker.specs.Loops.{AreBelow}
use Rattle.checker.proofs.change.place_from.Given as goal

-- the rows so far are in front of the id
abbrev pub invariant-loop-at : goal.invariant-loop-at
invariant-loop-at g l = AreBelow (g.C.Cover.rows l.rows) l.at l.id
