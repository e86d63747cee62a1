use Rattle.std.proofs.Common.{◌≡◌, ◌++◌, ◌-◌}
use Rattle.screen_forms.specs.Forms.{tti_rows}
use Rattle.screen_forms.proofs.sheet_lines.push_rows.Given as goal

-- the rows so far, and those that are left, are all
abbrev pub invariant-loop-number : goal.invariant-loop-number
invariant-loop-number l = l.out.items ++ tti_rows l.codes (23 - l.number) l.number ≡ l.fn.out.items ++ tti_rows l.codes 23 0
