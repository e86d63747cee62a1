use Rattle.std.proofs.Common.{◌-◌, ◌≤◌}
use Rattle.editions.specs.Folders.{IsLater}
use Rattle.edition_checks.specs.NextEditions.{IsEditionReached}
use Rattle.edition_checks.proofs.reaching.reach_edition.Given as goal

abbrev pub invariant-loop-here : goal.invariant-loop-here
invariant-loop-here g l = record {
  later : IsLater (g.F.EditionFolder.seen l.fn.folder) (g.F.EditionFolder.seen l.folder);
  reached : IsEditionReached (g.F.EditionFolder.seen l.fn.folder) l.served l.here;
  most : l.here.number ≤ l.number;
}

abbrev pub decreases-loop-here : goal.decreases-loop-here
decreases-loop-here g l = l.number - l.here.number
