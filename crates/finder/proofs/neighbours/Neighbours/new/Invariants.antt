use Rattle.std.proofs.Common.{◌≡◌, ◌<◌, ℕ, [], length, get_or}
use Rattle.smallvec.specs.SmallVec.{SmallVec}
use Rattle.finder.proofs.neighbours.Neighbours.new.Given as goal

abbrev pub invariant-loop-node : goal.invariant-loop-node
invariant-loop-node l = record {
  nodes : length l.lists.items ≡ l.node;
  empty : (g : ℕ) (d : SmallVec ℕ) → g < l.node → (get_or l.lists.items g d).items ≡ [];
}
