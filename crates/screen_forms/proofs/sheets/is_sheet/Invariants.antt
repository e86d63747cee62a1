use Rattle.std.proofs.Common.{◌≡◌, length}
use Rattle.std.specs.List.{list_any}
use Rattle.page_ids.specs.Parts.{parts_of}
use Rattle.screen_forms.specs.Sheets.{is_sheet, is_sheet_line}
use Rattle.screen_forms.proofs.sheets.is_sheet.Given as goal

-- no line before what is left is one of a sheet
abbrev pub invariant-loop-line : goal.invariant-loop-line
invariant-loop-line l = list_any is_sheet_line (parts_of 10 l.left) ≡ is_sheet l.text

abbrev pub decreases-loop-line : goal.decreases-loop-line
decreases-loop-line l = length l.left
