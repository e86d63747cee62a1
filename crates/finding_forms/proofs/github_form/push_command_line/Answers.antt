use Rattle.std.proofs.Common.{◌<◌, ◌^◌, option_copied, arith}
use Rattle.finding_forms.proofs.Printed.{always}
use Rattle.finding_forms.proofs.Commands.{IsLine-command}
use Rattle.finding_forms.proofs.github_form.push_command_line.Goals as goal

pub returns-clause-is_line : goal.returns-clause-is_line
returns-clause-is_line c =
    let path = c.in_ok-push_properties.ensures.is_line in
    let words = c.in_ok-push_message.ensures.is_line in
    let e = c.args.extent in
    let line : e.line < 2 ^ 64 = omega (arith, c.well_formed) in
    let column : e.column < 2 ^ 64 = omega (arith, c.well_formed) in
    let end_line : e.end_line < 2 ^ 64 = omega (arith, c.well_formed) in
    let end_column : e.end_column < 2 ^ 64 = omega (arith, c.well_formed) in
    always c.extend_from_slice-4.result
    (IsLine-command c.args.path.now e c.args.level c.args.words.now (option_copied c.args.hint) path line column end_line end_column words.0 words.1)
