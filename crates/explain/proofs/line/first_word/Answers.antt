use Rattle.std.proofs.Common.{◌<◌, arith, rules}
use Rattle.std.proofs.lemmas.Bool.{false≢true}
use Rattle.explain.specs.Loops.{texts_of}
use Rattle.explain.specs.Lines.{HasWordAt}
use Rattle.explain.proofs.Places.{none_yet}
use Rattle.explain.proofs.line.first_word.Goals as goal

pub loop-at-preserved : goal.loop-at-preserved
loop-at-preserved c =
    none_yet (λ j. HasWordAt c.args.sought (texts_of c.args.names.now) c.args.line.now j) c.loop-at.at c.loop-at.invariant (search rules)

pub returns : goal.returns
returns c = (
  λ e. absurd (false≢true e),
  λ h. let below : h.0 < c.loop-at.at = omega (arith, h.1, c.loop-at-test.false) in absurd (c.loop-at.invariant h.0 below h.2),
)
