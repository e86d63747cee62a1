use Rattle.audit_report.proofs.Listed.{all_listed}
use Rattle.audit_report.proofs.laws.lists_every_frame.Goals as goal

pub returns : goal.returns
returns c = all_listed
