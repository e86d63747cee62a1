use Rattle.pageaudit.specs.Files.{device}
use Rattle.pageaudit.specs.Loops.{IsBeingFed}
use Rattle.pageaudit.proofs.input.feed_whole.Given as goal

-- what was read so far was taken by the reader
abbrev pub invariant-loop-room : goal.invariant-loop-room
invariant-loop-room g l = record {
  fed : IsBeingFed (device g.S.Source.seen l.initial.source l.source) l.reader l.room;
}

abbrev pub decreases-loop-room : goal.decreases-loop-room
decreases-loop-room g l = l.room
