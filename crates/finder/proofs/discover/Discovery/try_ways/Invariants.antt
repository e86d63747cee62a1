use Rattle.finder.proofs.Words.{IsDiscoveredSoFar}
use Rattle.std.proofs.Common.{◌≡◌, ◌+◌, ◌*◌, Some, slice_get}
use Rattle.finder.proofs.discover.Discovery.try_ways.Given as goal

abbrev pub invariant-loop-way : goal.invariant-loop-way
invariant-loop-way l = record {
  placed : slice_get l.self.order.keys l.index ≡ Some l.from;
  listed : IsDiscoveredSoFar l.graph (l.index * 11 + l.way) l.self;
}
