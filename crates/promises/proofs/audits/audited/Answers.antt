use Rattle.promises.proofs.Answered.{each}
use Rattle.promises.proofs.audits.audited.Goals as goal

pub returns-clause-answer : goal.returns-clause-answer
returns-clause-answer c = each _ _ c.audit.result c.audit.ensures.outcome c.audit.ensures.safety c.audit.ensures.shown
