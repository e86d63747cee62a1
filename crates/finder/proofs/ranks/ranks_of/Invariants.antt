use Rattle.finder.specs.Loops.{IsSearch}
use Rattle.finder.proofs.ranks.ranks_of.Given as goal

abbrev pub invariant-loop-done : goal.invariant-loop-done
invariant-loop-done l = IsSearch l.graph l.done l.search.queue.items l.search.ranks.items
