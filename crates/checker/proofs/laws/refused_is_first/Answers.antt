use Rattle.checker.proofs.Clears.{refusal}
use Rattle.checker.proofs.laws.refused_is_first.Goals as goal

pub returns : goal.returns
returns c base policy cert cause = refusal base policy cert cause
