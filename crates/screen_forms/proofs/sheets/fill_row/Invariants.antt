use Rattle.std.proofs.Common.{◌≡◌, ◌++◌, ◌-◌, length, take}
use Rattle.screen_forms.specs.Sheets.{sheet_cells}
use Rattle.screen_forms.proofs.sheets.fill_row.Given as goal

-- the cells so far, and those of the text that is left, are all
abbrev pub invariant-loop-at : goal.invariant-loop-at
invariant-loop-at l = record {
  cells : take l.at l.row ++ sheet_cells (length l.fn.row - l.at) l.left ≡ sheet_cells (length l.fn.row) l.text;
  long : length l.row ≡ length l.fn.row;
}
