use Rattle.checker.specs.Loops.{AreWayChecks}
use Rattle.checker.proofs.ways.over_ways.Given as goal

-- the ways so far
abbrev pub invariant-loop-place : goal.invariant-loop-place
invariant-loop-place g l = AreWayChecks g.C.Cover.compared l.base l.cert.rows l.rank l.frame l.place l.seen
