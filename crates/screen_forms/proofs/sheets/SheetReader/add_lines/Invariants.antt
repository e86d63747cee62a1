use Rattle.std.proofs.Common.{◌≡◌, ◌≤◌, ◌+◌, Ok, length}
use Rattle.page_ids.specs.Parts.{parts_of}
use Rattle.screen_forms.specs.Sheets.{then_lines}
use Rattle.screen_forms.specs.Loops.{sheet_of}
use Rattle.screen_forms.proofs.sheets.SheetReader.add_lines.Given as goal

-- the sheet so far, after the lines that are left, is the one after all; there are no more lines than bytes
abbrev pub invariant-loop-text : goal.invariant-loop-text
invariant-loop-text l = record {
  all : then_lines (Ok (sheet_of l.self)) l.line (parts_of 10 l.left) ≡ then_lines (Ok (sheet_of l.fn.self)) 1 (parts_of 10 l.text);
  few : l.line + length l.left ≤ length l.text + 1;
}

abbrev pub decreases-loop-text : goal.decreases-loop-text
decreases-loop-text l = length l.left
