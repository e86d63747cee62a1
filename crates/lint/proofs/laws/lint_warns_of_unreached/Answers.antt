use Rattle.lint.proofs.Warnings.{lint_warns}
use Rattle.lint.proofs.laws.lint_warns_of_unreached.Goals as goal

pub returns : goal.returns
returns c = lint_warns
