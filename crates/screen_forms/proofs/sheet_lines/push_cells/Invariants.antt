use Rattle.std.proofs.Common.{◌≡◌, ◌++◌, drop}
use Rattle.std.specs.List.{flat_map}
use Rattle.screen_forms.specs.Forms.{tti_cell}
use Rattle.screen_forms.proofs.sheet_lines.push_cells.Given as goal

-- the text so far, and that of the cells that are left, is all
abbrev pub invariant-loop-code : goal.invariant-loop-code
invariant-loop-code l = l.out.items ++ flat_map tti_cell (drop l.code-index l.row) ≡ l.fn.out.items ++ flat_map tti_cell l.row
