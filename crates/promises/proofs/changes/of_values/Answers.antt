use Rattle.promises.proofs.Crossed.{over}
use Rattle.promises.proofs.changes.of_values.Goals as goal

pub returns-clause-safe : goal.returns-clause-safe
returns-clause-safe g c = λ cleared. over _ _ _ _ _ (c.check_change.ensures.safe cleared)
