use Rattle.std.proofs.Common.{◌≡◌, ◌++◌, drop}
use Rattle.screens.specs.Writing.{written}
use Rattle.screens.specs.Text.{text}
use Rattle.screens.proofs.text.push_text.Given as goal

abbrev pub invariant-loop-row : goal.invariant-loop-row
invariant-loop-row l = l.out.items ++ written l.writing (text (drop l.row-index l.row-items)) ≡ l.fn.out.items ++ written l.writing (text l.row-items)
