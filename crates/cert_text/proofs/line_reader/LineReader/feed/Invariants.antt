use Rattle.std.proofs.Common.{◌≡◌, drop}
use Rattle.cert_text.specs.Reading.{reading_after}
use Rattle.cert_text.proofs.line_reader.LineReader.feed.Given as goal

abbrev pub invariant-loop-byte : goal.invariant-loop-byte
invariant-loop-byte l = reading_after l.self (drop l.byte-index l.piece) ≡ reading_after l.fn.self l.piece
