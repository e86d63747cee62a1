use Rattle.one_call.proofs.Safe.{parts_are_safe}
use Rattle.one_call.proofs.laws.parts_are_safe.Goals as goal

pub returns : goal.returns
returns c = parts_are_safe
