use Rattle.std.proofs.Common.{◌≡◌, ◌++◌, drop}
use Rattle.edition_lists.specs.ListLines.{rows_lines}
use Rattle.edition_lists.proofs.list_lines.rows_lines.Given as goal

-- the lines so far, and those of the rows that are left, are the whole text
abbrev pub invariant-loop-row : goal.invariant-loop-row
invariant-loop-row l = l.out.items ++ rows_lines l.width (drop l.row-index l.rows) ≡ rows_lines l.width l.rows
