use Rattle.std.proofs.Common.{◌≡◌, true, take}
use Rattle.std.specs.Prelude.{IfSome}
use Rattle.edition_lists.specs.Rows.{AreEditionRows}
use Rattle.edition_lists.proofs.listing.list_all.Given as goal

-- the rows so far; nothing has changed
abbrev pub invariant-loop-number : goal.invariant-loop-number
invariant-loop-number g l = record {
  held : (g.S.EditionFolder.seen l.store).held ≡ true;
  same : (g.S.EditionFolder.seen l.store).state ≡ (g.S.EditionFolder.seen l.fn.store).state;
  so_far : IfSome (g.S.EditionFolder.seen l.fn.store).state (λ f. AreEditionRows f l.numbers l.served (take l.number-index l.numbers) l.rows.items);
}
