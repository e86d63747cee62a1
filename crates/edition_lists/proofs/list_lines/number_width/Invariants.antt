use Rattle.std.proofs.Common.{◌≡◌, max, drop}
use Rattle.edition_lists.specs.ListLines.{number_width}
use Rattle.edition_lists.proofs.list_lines.number_width.Given as goal

abbrev pub invariant-loop-number : goal.invariant-loop-number
invariant-loop-number l = number_width l.numbers ≡ max l.most (number_width (drop l.number-index l.numbers))
