use Rattle.std.proofs.Common.{sym}
use Rattle.toml.specs.View.{view}
use Rattle.base_text.specs.declared.detail.Detail.TheVariants.{BodyAndRows}
use Rattle.base_text.specs.Details.{with_one}
use Rattle.base_text.specs.Rows.{bytes_value, rows_value}
use Rattle.base_text.proofs.KeptDetails.{with_both}
use Rattle.base_text.proofs.bodies.read_both.Goals as goal

pub returns : goal.returns
returns c =
    let begun = with_one c.args.details.now BodyAndRows in
    rw (c.in_ok-read_rows.ensures.1, c.in_ok-read_value.ensures.1, c.in_ok-add.ensures)
    (sym (with_both begun (bytes_value (view c.args.body.now)).faults (rows_value (view c.args.rows.now)).faults))
