use Rattle.std.proofs.Common.{◌≡◌, ◌≤◌}
use Rattle.screen_files.specs.Rows.{last_row}
use Rattle.screen_files.proofs.rows.last_row.Given as goal

-- the rows after this one are blank
abbrev pub invariant-loop-row : goal.invariant-loop-row
invariant-loop-row l = record {
  last : last_row l.codes l.row ≡ last_row l.codes 22;
  within : l.row ≤ 22;
}

abbrev pub decreases-loop-row : goal.decreases-loop-row
decreases-loop-row l = l.row
