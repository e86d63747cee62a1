use Rattle.std.proofs.Common.{◌≡◌, ◌++◌, drop}
use Rattle.served_bytes.specs.Seven.{in_seven}
use Rattle.served_bytes.proofs.seven.push_in_seven.Given as goal

abbrev pub invariant-loop-byte : goal.invariant-loop-byte
invariant-loop-byte l = l.out.items ++ in_seven (drop l.byte-index l.bytes) ≡ l.fn.out.items ++ in_seven l.bytes
