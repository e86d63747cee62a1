use Rattle.std.proofs.Common.{◌≡◌, length}
use Rattle.slip_fixes.specs.NearKeys.{first_near}
use Rattle.slip_fixes.proofs.keys.first_near.Given as goal

abbrev pub invariant-loop-field : goal.invariant-loop-field
invariant-loop-field l = first_near l.key l.rest ≡ first_near l.key l.fields

abbrev pub decreases-loop-field : goal.decreases-loop-field
decreases-loop-field l = length l.rest
