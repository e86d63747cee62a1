use Rattle.std.proofs.Common.{◌≡◌, drop}
use Rattle.terminal_codes.specs.Screen.{run}
use Rattle.terminal_codes.proofs.terminal.Terminal.run.Given as goal

abbrev pub invariant-loop-byte : goal.invariant-loop-byte
invariant-loop-byte l = run l.self (drop l.byte-index l.bytes) ≡ run l.fn.self l.bytes
