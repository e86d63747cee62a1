use Rattle.std.proofs.Common.{◌≡◌, length}
use Rattle.slip_fixes.specs.Bytes.{are_blank}
use Rattle.slip_fixes.proofs.bytes.are_blank.Given as goal

abbrev pub invariant-loop-first : goal.invariant-loop-first
invariant-loop-first l = are_blank l.rest ≡ are_blank l.bytes

abbrev pub decreases-loop-first : goal.decreases-loop-first
decreases-loop-first l = length l.rest
