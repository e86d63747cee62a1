use Rattle.std.proofs.Common.{◌*◌}
use Rattle.finder.specs.Loops.{IsDiscoveredSoFar}
use Rattle.finder.proofs.discover.discover.Given as goal

abbrev pub invariant-loop-index : goal.invariant-loop-index
invariant-loop-index l = IsDiscoveredSoFar l.graph (l.index * 11) l.discovery
