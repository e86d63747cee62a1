use Rattle.audit_report.proofs.OneLine.{are_one_lines}
use Rattle.audit_report.proofs.laws.frames_are_lines.Goals as goal

pub returns : goal.returns
returns c = are_one_lines
