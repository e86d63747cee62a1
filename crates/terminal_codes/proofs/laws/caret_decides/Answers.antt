use Rattle.terminal_codes.proofs.Runs.{runs_alike}
use Rattle.terminal_codes.proofs.laws.caret_decides.Goals as goal

pub returns : goal.returns
returns c = runs_alike
