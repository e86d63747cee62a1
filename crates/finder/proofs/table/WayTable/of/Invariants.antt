use Rattle.std.proofs.Common.{◌*◌}
use Rattle.finder.specs.Loops.WayTargets.{AreTargets}
use Rattle.finder.proofs.table.WayTable.of.Given as goal

abbrev pub invariant-loop-node : goal.invariant-loop-node
invariant-loop-node l = AreTargets l.notes.groups.now l.notes.base.now (l.node * 11) l.targets
