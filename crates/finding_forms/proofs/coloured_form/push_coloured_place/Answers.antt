use Rattle.finding_forms.proofs.Printed.{always}
use Rattle.finding_forms.proofs.coloured_form.push_coloured_place.Goals as goal

pub returns-clause-is_line : goal.returns-clause-is_line
returns-clause-is_line c = always c.push_end_shade.result c.in_ok-push_place.ensures.is_line
