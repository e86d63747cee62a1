use Rattle.std.proofs.Common.{◌+◌, ◌*◌}
use Rattle.finder.specs.Loops.WayTargets.{AreTargets}
use Rattle.finder.proofs.table.Targets.add_frame.Given as goal

abbrev pub invariant-loop-way : goal.invariant-loop-way
invariant-loop-way l = AreTargets l.notes.groups.now l.notes.base.now (l.node * 11 + l.way) l.self
