use Rattle.finding_forms.proofs.Printed.{whole}
use Rattle.finding_forms.proofs.laws.findings_are_whole_lines.Goals as goal

pub returns : goal.returns
returns c = whole
