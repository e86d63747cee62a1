use Rattle.one_call.proofs.Seen.{parts_are_seen}
use Rattle.one_call.proofs.laws.parts_are_seen.Goals as goal

pub returns : goal.returns
returns c = parts_are_seen
