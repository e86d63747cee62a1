use Rattle.std.proofs.Common.{inl, arith}
use Rattle.finder.proofs.Searching.{few, ranks_are}
use Rattle.finder.proofs.ranks.ranks_of.Goals as goal

pub returns-in_default-clause-ranks : goal.returns-in_default-clause-ranks
returns-in_default-clause-ranks c = ranks_are _ _ _ _ c.loop-done.invariant c.in_default.ensures.none

pub returns-clause-ranks : goal.returns-clause-ranks
returns-clause-ranks c = ranks_are _ _ _ _ c.loop-done.invariant (inl (omega (arith, few _ _ _ _ c.loop-done.invariant)))
