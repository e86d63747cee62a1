use Rattle.std.proofs.Common.{◌<◌, ◌^◌, option_copied, arith}
use Rattle.serde_json.specs.View.{view}
use Rattle.finding_forms.proofs.Printed.{always}
use Rattle.finding_forms.proofs.Objects.{feeds_object}
use Rattle.finding_forms.proofs.json_form.push_object_line.Goals as goal

pub returns-clause-no_feed : goal.returns-clause-no_feed
returns-clause-no_feed c =
    let e = c.args.extent in
    let line : e.line < 2 ^ 64 = omega (arith, c.well_formed) in
    let column : e.column < 2 ^ 64 = omega (arith, c.well_formed) in
    let end_line : e.end_line < 2 ^ 64 = omega (arith, c.well_formed) in
    let end_column : e.end_column < 2 ^ 64 = omega (arith, c.well_formed) in
    always c.push_line.result
    (feeds_object c.args.file.now e c.args.level c.args.words.now (option_copied c.args.hint) (view c.args.fix) line column end_line end_column c.requires.no_feed)
