use Rattle.std.proofs.Common.{◌≡◌, ◌++◌, ◌≤◌, ◌-◌, [], drop, take, get_or}
use Rattle.screens.specs.declared.look.Look.{Look}
use Rattle.screens.specs.Svg.{markup, ink_of, row_pieces}
use Rattle.screens.proofs.svg.push_row.Given as goal

abbrev pub invariant-loop-column : goal.invariant-loop-column
invariant-loop-column l = record {
  rest : l.out.items ++ markup (row_pieces l.layer l.row l.from (take (l.column - l.from) (drop l.from l.looks)) (drop l.column l.looks)) ≡ l.fn.out.items ++ markup (row_pieces l.layer l.row 0 [] l.looks);
  behind : l.from ≤ l.column;
  inked : (d : Look) → l.ink ≡ ink_of l.layer (get_or l.looks l.from d);
}
