use Rattle.std.proofs.Common.{◌≡◌, drop}
use Rattle.base_pages.specs.Loops.{first_numbered_start}
use Rattle.base_pages.proofs.faults.first_start.Given as goal

-- no start so far
abbrev pub invariant-loop-number : goal.invariant-loop-number
invariant-loop-number l = first_numbered_start l.faults (drop l.number-index l.numbers) ≡ first_numbered_start l.faults l.numbers
