use Rattle.lint.proofs.SpansLie.{spans_lie}
use Rattle.lint.proofs.laws.spans_lie_in_the_text.Goals as goal

pub returns : goal.returns
returns c = spans_lie
