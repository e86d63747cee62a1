use Rattle.std.proofs.Common.{◌≡◌, ◌≤◌, ◌++◌, map, drop, replicate}
use Rattle.screens.specs.Writing.{written}
use Rattle.screens.specs.Text.{seen_char, trimmed, line}
use Rattle.screens.proofs.text.push_line.Given as goal

abbrev pub invariant-loop-look : goal.invariant-loop-look
invariant-loop-look l = record {
  rest : l.out.items ++ written l.writing (trimmed (replicate l.spaces 0x20 ++ map seen_char (drop l.look-index l.row))) ≡ l.initial.out.items ++ written l.writing (line l.row);
  few : l.spaces ≤ l.look-index;
}
