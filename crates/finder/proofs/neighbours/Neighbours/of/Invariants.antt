use Rattle.std.proofs.Common.{◌+◌, ◌*◌}
use Rattle.finder.specs.Loops.{AreNeighbours}
use Rattle.finder.proofs.neighbours.Neighbours.of.Given as goal

abbrev pub invariant-loop-node : goal.invariant-loop-node
invariant-loop-node l = AreNeighbours l.graph (l.node * 11) l.neighbours.lists.items

abbrev pub invariant-loop-way : goal.invariant-loop-way
invariant-loop-way l = AreNeighbours l.graph (l.node * 11 + l.way) l.neighbours.lists.items
