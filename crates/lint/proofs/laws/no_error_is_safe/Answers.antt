use Rattle.lint.proofs.Meanings.{decided}
use Rattle.lint.proofs.laws.no_error_is_safe.Goals as goal

pub returns : goal.returns
returns c = decided
