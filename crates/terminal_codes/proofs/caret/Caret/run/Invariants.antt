use Rattle.std.proofs.Common.{◌≡◌, ◌<◌, drop}
use Rattle.terminal_codes.specs.Writes.{caret_run}
use Rattle.terminal_codes.proofs.caret.Caret.run.Given as goal

abbrev pub invariant-loop-byte : goal.invariant-loop-byte
invariant-loop-byte l = record {
  rest : caret_run l.caret (drop l.byte-index l.bytes) ≡ caret_run l.fn.self l.bytes;
  on_screen : l.caret.at < 960;
}
