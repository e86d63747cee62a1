use Rattle.terminal_codes.proofs.Stores.{stores_writes}
use Rattle.terminal_codes.proofs.terminal.Terminal.run.Goals as goal

pub returns-clause-stores : goal.returns-clause-stores
returns-clause-stores c = stores_writes c.args.self.now c.args.bytes.now c.at-at.ensures.screen
