use Rattle.std.proofs.Common.{◌≡◌, ◌++◌, drop}
use Rattle.base_pages.specs.Loops.{numbered_items}
use Rattle.base_pages.proofs.faults.push_items.Given as goal

abbrev pub invariant-loop-number : goal.invariant-loop-number
invariant-loop-number l = l.out.items ++ numbered_items l.faults (drop l.number-index l.numbers) ≡ l.fn.out.items ++ numbered_items l.faults l.numbers
