use Rattle.std.proofs.Common.{◌≡◌, ◌++◌, ℕ, Some, reverse}
use Rattle.std.specs.Prelude.{slice_get}
use Rattle.finder.specs.Finds.{script}
use Rattle.frame_screens.specs.Frames.{frames_sent}
use Rattle.frame_screens.proofs.Ways.{earlier_by, left_of}
use Rattle.frame_screens.proofs.way.way_at.Given as goal

-- the frames before this one, and then it and those that were passed, are the way
abbrev pub invariant-loop-at : goal.invariant-loop-at
invariant-loop-at l = record {
  listed : (i : ℕ) × (slice_get l.survey.found i ≡ Some l.at);
  way : frames_sent l.survey.groups l.survey.base (script l.survey.found l.fn.place)
      ≡ earlier_by l.survey.groups l.survey.base l.survey.found l.at.parent ++ reverse l.back;
}

abbrev pub decreases-loop-at : goal.decreases-loop-at
decreases-loop-at l = left_of l.at.parent
