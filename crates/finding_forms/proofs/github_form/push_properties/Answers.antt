use Rattle.finding_forms.proofs.Printed.{always}
use Rattle.finding_forms.proofs.github_form.push_properties.Goals as goal

pub returns-clause-is_line : goal.returns-clause-is_line
returns-clause-is_line c = always c.push_code.result c.in_ok-push_escaped.ensures.is_line
