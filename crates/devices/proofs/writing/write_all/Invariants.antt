use Rattle.std.proofs.Common.{◌≡◌, ◌-◌, ◌≤◌, false, length, take}
use Rattle.std.specs.Io.KnownBytes.{Appends}
use Rattle.devices.proofs.writing.write_all.Given as goal

abbrev pub invariant-loop-wrote : goal.invariant-loop-wrote
invariant-loop-wrote g l = record {
  unbroken : (g.S.Sink.seen l.sink).failed ≡ false;
  unflushed : (g.S.Sink.seen l.sink).flushes ≡ (g.S.Sink.seen l.initial.sink).flushes;
  within : l.wrote ≤ length l.bytes;
  taken : Appends (g.S.Sink.seen l.initial.sink).bytes (g.S.Sink.seen l.sink).bytes (take l.wrote l.bytes);
}

abbrev pub decreases-loop-wrote : goal.decreases-loop-wrote
decreases-loop-wrote g l = length l.bytes - l.wrote
