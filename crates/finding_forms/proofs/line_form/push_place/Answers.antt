use Rattle.finding_forms.proofs.Printed.{always, IsLine-place}
use Rattle.finding_forms.proofs.line_form.push_place.Goals as goal

pub returns-clause-is_line : goal.returns-clause-is_line
returns-clause-is_line c =
    always c.push_part-2.result (IsLine-place c.args.path.now c.args.line c.args.column c.as_str.ensures.line c.ranges.line.fits c.ranges.column.fits)
