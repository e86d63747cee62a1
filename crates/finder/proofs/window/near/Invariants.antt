use Rattle.finder.specs.Loops.{AreNear}
use Rattle.finder.proofs.window.near.Given as goal

abbrev pub invariant-loop-node : goal.invariant-loop-node
invariant-loop-node l = AreNear l.graph l.ranks l.most l.node l.ids.keys
