use Rattle.terminal_codes.proofs.Codes.{cells_hold_codes}
use Rattle.terminal_codes.proofs.laws.cells_hold_codes.Goals as goal

pub returns : goal.returns
returns c = cells_hold_codes
