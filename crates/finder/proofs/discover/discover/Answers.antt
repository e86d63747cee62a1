use Rattle.std.proofs.Common.{inl, sym, subst, arith}
use Rattle.finder.specs.Loops.{AreRanks}
use Rattle.finder.proofs.Marked.{few, discovered}
use Rattle.finder.proofs.Steps.{rank_ids}
use Rattle.finder.proofs.discover.discover.Goals as goal

pub new-requires-clause-ranks : goal.new-requires-clause-ranks
new-requires-clause-ranks c = subst (AreRanks c.args.graph.now) (sym c.as_slice.ensures.value) (rank_ids c.args.graph.now c.requires.entry _ c.in_ok-ranks.ensures.ranks)

pub try_ways-requires-clause-ranks : goal.try_ways-requires-clause-ranks
try_ways-requires-clause-ranks c = subst (AreRanks c.args.graph.now) (sym c.as_slice-in-loop-index.ensures.value) (rank_ids c.args.graph.now c.requires.entry _ c.in_ok-ranks.ensures.ranks)

-- no frame is left whose ways weren't tried, or none that isn't listed
pub returns-in_default-clause-reached : goal.returns-in_default-clause-reached
returns-in_default-clause-reached c = discovered _ _ _ c.loop-index.invariant c.requires.entry c.in_default.ensures.none c.requires.found

pub returns-in_default-clause-few : goal.returns-in_default-clause-few
returns-in_default-clause-few c = omega (arith, few _ _ _ c.loop-index.invariant.marked, c.loop-index.invariant.named.as_many)

pub returns-clause-reached : goal.returns-clause-reached
returns-clause-reached c = discovered _ _ _ c.loop-index.invariant c.requires.entry (inl (omega (arith, few _ _ _ c.loop-index.invariant.marked, c.loop-index-test.false))) c.requires.found

pub returns-clause-few : goal.returns-clause-few
returns-clause-few c = omega (arith, few _ _ _ c.loop-index.invariant.marked, c.loop-index.invariant.named.as_many)
