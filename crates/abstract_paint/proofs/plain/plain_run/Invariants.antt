use Rattle.std.proofs.Common.{◌≡◌, ◌+◌, ◌-◌, ◌≤◌, length, drop}
use Rattle.abstract_paint.specs.Plain.{plain_len}
use Rattle.abstract_paint.proofs.plain.plain_run.Given as goal

abbrev pub invariant-loop-chunk : goal.invariant-loop-chunk
invariant-loop-chunk l = record {
  within : l.run ≤ length l.bytes;
  rest : plain_len l.bytes ≡ l.run + plain_len (drop l.run l.bytes);
}

abbrev pub decreases-loop-chunk : goal.decreases-loop-chunk
decreases-loop-chunk l = length l.bytes - l.run
