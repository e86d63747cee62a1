use Rattle.std.proofs.Common.{◌≡◌, true, take}
use Rattle.std.specs.Prelude.{IfSome}
use Rattle.edition_lists.specs.Loops.{IsKeptBefore}
use Rattle.edition_lists.specs.Findings.{AreFindings}
use Rattle.edition_lists.proofs.verifying.judge_all.Given as goal

-- what was found so far; nothing has changed
abbrev pub invariant-loop-number : goal.invariant-loop-number
invariant-loop-number g l = record {
  held : (g.S.EditionFolder.seen l.store).held ≡ true;
  same : (g.S.EditionFolder.seen l.store).state ≡ (g.S.EditionFolder.seen l.fn.store).state;
  kept : IsKeptBefore (g.S.EditionFolder.seen l.store) l.before;
  so_far : IfSome (g.S.EditionFolder.seen l.fn.store).state (λ f. AreFindings f l.numbers l.served (take l.number-index l.numbers) l.findings.items);
}
