use Rattle.std.proofs.Common.{◌≡◌, false, arith}
use Rattle.std.specs.Prelude.{◌==◌}
use Rattle.std.proofs.lemmas.Bool.Decides.{nat_tests}
use Rattle.std.proofs.lemmas.List.Elements.{All-more}
use Rattle.page_ids.proofs.Cuts.{cut_at, uncut}
use Rattle.page_ids.proofs.parts.cut.Goals as goal

pub loop-i-preserved : goal.loop-i-preserved
loop-i-preserved c = All-more (λ b. (b == c.args.separator) ≡ false) c.args.text.now c.loop-i.i 0 c.loop-i-test.true c.loop-i.invariant (grind (arith, nat_tests))

pub returns-then-text-i-clause-parts : goal.returns-then-text-i-clause-parts
returns-then-text-i-clause-parts c = cut_at c.args.separator c.args.text.now c.loop-i.i c.loop-i-test.true c.if-text-i.true c.loop-i.invariant

pub returns-clause-parts : goal.returns-clause-parts
returns-clause-parts c = uncut c.args.separator c.args.text.now c.loop-i.i c.loop-i-test.false c.loop-i.invariant
