use Rattle.std.proofs.Common.{◌≡◌, ◌++◌, drop}
use Rattle.base_pages.specs.Loops.{entry_items}
use Rattle.base_pages.proofs.faults.push_entry_items.Given as goal

abbrev pub invariant-loop-fault : goal.invariant-loop-fault
invariant-loop-fault l = l.out.items ++ entry_items (drop l.fault-index l.faults) ≡ l.fn.out.items ++ entry_items l.faults
