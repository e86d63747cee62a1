use Rattle.promises.proofs.Headlines.{of_files}
use Rattle.promises.proofs.checks.of_files.Goals as goal

pub returns : goal.returns
returns g c = λ clear. of_files _ _ _ (c.run_check.ensures.headline clear)
