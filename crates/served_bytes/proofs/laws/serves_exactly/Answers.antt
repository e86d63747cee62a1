use Rattle.served_bytes.proofs.Served.{serves_exactly}
use Rattle.served_bytes.proofs.laws.serves_exactly.Goals as goal

pub returns : goal.returns
returns c = serves_exactly
