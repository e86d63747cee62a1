use Rattle.std.proofs.Common.{◌≡◌, ◌<◌, ◌+◌, ℕ, Some, slice_get, get_or}
use Rattle.finder.specs.Loops.{HasRank, IsSearch}
use Rattle.finder.proofs.ranks.Ranking.mark_all.Given as goal

abbrev pub invariant-loop-node : goal.invariant-loop-node
invariant-loop-node l = record {
  search : IsSearch l.graph l.done l.self.queue.items l.self.ranks.items;
  waits : slice_get l.self.queue.items l.done ≡ Some l.to;
  passed : (k : ℕ) → k < l.node-index → HasRank l.self.ranks.items (get_or l.nodes k 0) (l.to.rank + 1);
}
