use Rattle.std.proofs.Common.{◌≡◌, ◌++◌, drop}
use Rattle.base_pages.specs.Loops.{numbered_faults}
use Rattle.base_pages.proofs.index.number_all.Given as goal

abbrev pub invariant-loop-number : goal.invariant-loop-number
invariant-loop-number l = l.list.items ++ numbered_faults l.number (drop l.number l.faults) ≡ numbered_faults 0 l.faults
