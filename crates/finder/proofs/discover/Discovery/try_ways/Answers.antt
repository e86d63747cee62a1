use Rattle.std.proofs.Common.{subst, arith}
use Rattle.finder.specs.Loops.{IsDiscoveredSoFar}
use Rattle.finder.proofs.discover.Discovery.try_ways.Goals as goal

pub loop-way-init : goal.loop-way-init
loop-way-init c = record { placed = c.requires.placed; listed = subst (λ n. IsDiscoveredSoFar c.args.graph.now n c.args.self.now) (omega arith) c.requires.listed }

pub loop-way-preserved : goal.loop-way-preserved
loop-way-preserved c = record { placed = c.in_ok-try_way.ensures.placed; listed = subst (λ n. IsDiscoveredSoFar c.args.graph.now n c.try_way.new.self) (omega arith) c.in_ok-try_way.ensures.listed }

pub returns : goal.returns
returns c = subst (λ n. IsDiscoveredSoFar c.args.graph.now n c.loop-way.self) (omega (arith, c.loop-way-test.false, c.loop-way.auto.way-end)) c.loop-way.invariant.listed
