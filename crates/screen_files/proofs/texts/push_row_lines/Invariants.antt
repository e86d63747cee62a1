use Rattle.std.proofs.Common.{◌≡◌, ◌++◌}
use Rattle.std.specs.List.{flat_map}
use Rattle.screen_files.specs.Rows.{rows_to}
use Rattle.screen_files.specs.Texts.{row_text_line}
use Rattle.screen_files.proofs.texts.push_row_lines.Given as goal

-- the lines of the rows so far
abbrev pub invariant-loop-above : goal.invariant-loop-above
invariant-loop-above l = l.out.items ≡ l.fn.out.items ++ flat_map row_text_line (rows_to l.codes l.above)
