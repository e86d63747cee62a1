use Rattle.std.proofs.Common.{◌≡◌, length}
use Rattle.slip_fixes.specs.Bytes.{sets_value}
use Rattle.slip_fixes.proofs.bytes.sets_value.Given as goal

abbrev pub invariant-loop-first : goal.invariant-loop-first
invariant-loop-first l = sets_value l.rest ≡ sets_value l.bytes

abbrev pub decreases-loop-first : goal.decreases-loop-first
decreases-loop-first l = length l.rest
