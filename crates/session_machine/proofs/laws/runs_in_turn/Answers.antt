use Rattle.session_machine.proofs.Runs.{state_in_turn, replies_in_turn}
use Rattle.session_machine.proofs.laws.runs_in_turn.Goals as goal

pub returns : goal.returns
returns c = record { state = state_in_turn; replies = replies_in_turn }
