use Rattle.std.proofs.Common.{◌≡◌, max, drop}
use Rattle.editions.specs.Folders.{greatest}
use Rattle.editions.proofs.numbering.next_number.Given as goal

abbrev pub invariant-loop-number : goal.invariant-loop-number
invariant-loop-number l = greatest l.numbers ≡ max l.most (greatest (drop l.number-index l.numbers))
