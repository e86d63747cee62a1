use Rattle.std.proofs.Common.{◌≡◌, length}
use Rattle.frame_screens.specs.Painted.{AreKept}
use Rattle.frame_screens.proofs.painter.Painter.of.Given as goal

-- the terminals of the places so far
abbrev pub invariant-loop-place : goal.invariant-loop-place
invariant-loop-place l = record {
  count : length l.kept.items ≡ l.place;
  held : AreKept l.fn.survey l.kept.items;
}
