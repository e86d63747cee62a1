use Rattle.checker.proofs.Editions.{safe_over_changes}
use Rattle.checker.proofs.laws.changes_are_safe.Goals as goal

pub returns : goal.returns
returns c policy first second more apart cleared = safe_over_changes policy first second more apart cleared
