use Rattle.session_machine.proofs.Runs.{away_state, away_replies}
use Rattle.session_machine.proofs.laws.left_stays.Goals as goal

pub returns : goal.returns
returns c = record { state = away_state; replies = away_replies }
