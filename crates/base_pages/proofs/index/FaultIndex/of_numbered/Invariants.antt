use Rattle.std.proofs.Common.{◌≡◌, ◌++◌, drop}
use Rattle.page_ids.specs.Ids.{Id}
use Rattle.base_pages.specs.Loops.{kept_of, numbers_of}
use Rattle.base_pages.proofs.index.FaultIndex.of_numbered.Given as goal

abbrev pub invariant-loop-fault : goal.invariant-loop-fault
invariant-loop-fault l = (id : Id) → kept_of l.index id ++ numbers_of (drop l.fault-index l.list) id ≡ numbers_of l.list id
