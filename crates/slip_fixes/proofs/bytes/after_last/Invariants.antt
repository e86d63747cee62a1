use Rattle.std.proofs.Common.{◌≡◌, length}
use Rattle.slip_fixes.specs.Bytes.{after_last}
use Rattle.slip_fixes.proofs.bytes.after_last.Given as goal

abbrev pub invariant-loop-first : goal.invariant-loop-first
invariant-loop-first l = after_last l.before l.part l.rest ≡ after_last l.before l.bytes l.bytes

abbrev pub decreases-loop-first : goal.decreases-loop-first
decreases-loop-first l = length l.rest
