use Rattle.devices.proofs.OnTheWay.{broke_at_end}
use Rattle.devices.proofs.pieces.write_last.Goals as goal

pub returns-in-Err-clause-part : goal.returns-in-Err-clause-part
returns-in-Err-clause-part g c = λ start text way. broke_at_end _ _ _ _ _ _ way _ c.in-Err.ensures.part
