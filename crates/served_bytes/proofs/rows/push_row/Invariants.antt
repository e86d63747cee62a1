use Rattle.std.proofs.Common.{◌≡◌, ◌++◌, map}
use Rattle.std.specs.List.{range_with_len}
use Rattle.served_bytes.specs.Rows.{cell_in}
use Rattle.served_bytes.proofs.rows.push_row.Given as goal

abbrev pub invariant-loop-column : goal.invariant-loop-column
invariant-loop-column l = l.out.items ≡ l.initial.out.items ++ map (cell_in l.text) (range_with_len 0 l.column)
