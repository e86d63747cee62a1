use Rattle.std.proofs.Common.{option_copied}
use Rattle.finding_forms.proofs.Printed.{always, IsLine-line}
use Rattle.finding_forms.proofs.line_form.push_line.Goals as goal

pub returns-clause-is_line : goal.returns-clause-is_line
returns-clause-is_line c =
    let at = c.in_ok-push_place.ensures.is_line in
    let words = c.in_ok-push_words.ensures.is_line in
    always c.extend_from_slice-4.result
    (IsLine-line c.args.path.now c.args.place c.args.level c.args.words.now (option_copied c.args.hint) at words)
