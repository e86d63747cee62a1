use Rattle.terminal_codes.proofs.Starts.{starts_are_enough}
use Rattle.terminal_codes.proofs.laws.starts_decide.Goals as goal

pub returns : goal.returns
returns c = starts_are_enough
