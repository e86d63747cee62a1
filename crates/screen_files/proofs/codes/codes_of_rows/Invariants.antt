use Rattle.std.proofs.Common.{◌≡◌, ◌++◌, drop, length, map, take}
use Rattle.screen_files.specs.Codes.{placed, row_code}
use Rattle.screen_files.proofs.codes.codes_of_rows.Given as goal

-- the codes so far are changed
abbrev pub invariant-loop-cell : goal.invariant-loop-cell
invariant-loop-cell l = record {
  rest : take l.cell-index l.cell-items ++ map (row_code l.spaces) (drop l.cell-index l.cell-items) ≡ map (row_code l.spaces) (placed l.rows);
  size : length l.cell-items ≡ 960;
}
