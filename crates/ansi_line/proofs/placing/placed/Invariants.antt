use Rattle.std.proofs.Common.{◌≡◌, ◌++◌, drop}
use Rattle.ansi_line.specs.AnsiLines.{lines_placed, first_place}
use Rattle.ansi_line.proofs.placing.placed.Given as goal

abbrev pub invariant-loop-byte : goal.invariant-loop-byte
invariant-loop-byte l = l.out.items ++ lines_placed (record { row = l.row; begins = l.begins }) (drop l.byte-index l.text) ≡ lines_placed first_place l.text
