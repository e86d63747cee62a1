use Rattle.std.proofs.Common.{below_more, arith}
use Rattle.finder.proofs.Searching.{finished, node_inside, all_ranked, steps_lead}
use Rattle.finder.proofs.ranks.Ranking.mark_all.Goals as goal

pub mark-requires-clause-leads : goal.mark-requires-clause-leads
mark-requires-clause-leads c = steps_lead _ _ _ _ _ c.requires.neighbours c.from-nodes.ensures (node_inside _ _ _ _ _ c.requires.search c.requires.waits) c.loop-node-test.true

pub loop-node-preserved : goal.loop-node-preserved
loop-node-preserved c = record {
  search = c.in_ok-mark.ensures.search;
  waits = c.in_ok-mark.ensures.waits;
  passed = below_more _ _ (λ k lt. c.in_ok-mark.ensures.kept _ _ (c.loop-node.invariant.passed k lt)) c.in_ok-mark.ensures.marked;
}

pub returns : goal.returns
returns c = finished _ _ _ _ _ c.loop-node.invariant.search c.loop-node.invariant.waits (all_ranked _ _ _ _ _ c.requires.neighbours c.from-nodes.ensures (λ k lt. c.loop-node.invariant.passed k (omega (arith, lt, c.loop-node-test.false))))
