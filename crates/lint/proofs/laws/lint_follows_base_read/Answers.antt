use Rattle.lint.proofs.Meanings.{follows}
use Rattle.lint.proofs.laws.lint_follows_base_read.Goals as goal

pub returns : goal.returns
returns c = follows
