use Rattle.std.proofs.Common.{◌≡◌, length}
use Rattle.slip_fixes.specs.Bytes.{after_gaps}
use Rattle.slip_fixes.proofs.bytes.after_gaps.Given as goal

abbrev pub invariant-loop-first : goal.invariant-loop-first
invariant-loop-first l = after_gaps l.rest ≡ after_gaps l.bytes

abbrev pub decreases-loop-first : goal.decreases-loop-first
decreases-loop-first l = length l.rest
