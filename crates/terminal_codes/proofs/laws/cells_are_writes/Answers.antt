use Rattle.terminal_codes.proofs.Stores.{stores_writes}
use Rattle.terminal_codes.proofs.laws.cells_are_writes.Goals as goal

pub returns : goal.returns
returns c = stores_writes
