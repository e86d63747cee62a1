use Rattle.std.proofs.Common.{◌≡◌, length, false}
use Rattle.slip_fixes.specs.Bytes.{last_run}
use Rattle.slip_fixes.proofs.bytes.last_run.Given as goal

abbrev pub invariant-loop-first : goal.invariant-loop-first
invariant-loop-first l = last_run l.is_within l.run l.rest ≡ last_run false l.bytes l.bytes

abbrev pub decreases-loop-first : goal.decreases-loop-first
decreases-loop-first l = length l.rest
