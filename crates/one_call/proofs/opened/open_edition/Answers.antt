use Rattle.one_call.proofs.Judged.{judged_fault}
use Rattle.one_call.proofs.opened.open_edition.Goals as goal

pub returns-in-Ok-clause-fault : goal.returns-in-Ok-clause-fault
returns-in-Ok-clause-fault g c = judged_fault (g.F.EditionFolder.seen c.args.folder.now) c.in-Ok.served c.checked.result c.in-Ok.ensures.read c.checked.ensures
