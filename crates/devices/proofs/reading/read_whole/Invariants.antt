use Rattle.std.proofs.Common.{◌≡◌, ◌-◌, ◌≤◌, false, length}
use Rattle.std.specs.Io.KnownBytes.{Consumes}
use Rattle.devices.proofs.reading.read_whole.Given as goal

abbrev pub invariant-loop-piece : goal.invariant-loop-piece
invariant-loop-piece g l = record {
  unbroken : (g.S.Source.seen l.source).failed ≡ false;
  within : length l.bytes.items ≤ l.limit;
  given : Consumes (g.S.Source.seen l.initial.source).bytes (g.S.Source.seen l.source).bytes l.bytes.items;
}

abbrev pub decreases-loop-piece : goal.decreases-loop-piece
decreases-loop-piece g l = l.limit - length l.bytes.items
