use Rattle.promises.proofs.Crossed.{of_change}
use Rattle.promises.proofs.changes.of_files.Goals as goal

pub returns : goal.returns
returns g c = λ clear. of_change _ _ _ (c.run_change.ensures.safe clear)
