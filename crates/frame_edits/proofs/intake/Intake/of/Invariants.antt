use Rattle.std.proofs.Common.{◌≡◌, length}
use Rattle.frame_edits.specs.Merging.{intake_from, nothing_taken}
use Rattle.frame_edits.proofs.intake.Intake.of.Given as goal

-- the frames so far, then the remaining ones, result in the same
abbrev pub invariant-loop-filed : goal.invariant-loop-filed
invariant-loop-filed l = intake_from l.base l.intake l.their_places l.rest ≡ intake_from l.base nothing_taken l.places l.frames

abbrev pub decreases-loop-filed : goal.decreases-loop-filed
decreases-loop-filed l = length l.rest
