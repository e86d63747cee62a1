use Rattle.std.proofs.Common.{◌≤◌}
use Rattle.editions.specs.Folders.{IsLater}
use Rattle.edition_checks.proofs.reaching.number_after.Given as goal

abbrev pub invariant-loop-number : goal.invariant-loop-number
invariant-loop-number g l = record {
  later : IsLater (g.F.EditionFolder.seen l.fn.folder) (g.F.EditionFolder.seen l.folder);
  most : l.number ≤ l.to;
}

abbrev pub decreases-loop-number : goal.decreases-loop-number
decreases-loop-number g l = l.number
