use Rattle.std.proofs.Common.{◌≡◌, ◌<◌, ◌^◌, false, refl, sym, subst, arith}
use Rattle.serde_json.specs.Data.{Data}
use Rattle.serde_json.specs.Written.{compact_text, has_float}
use Rattle.finding_forms.proofs.Printed.{feeds}
use Rattle.finding_forms.proofs.Objects.{feeds_replacing}
use Rattle.finding_forms.proofs.json_form.replacement_value.Goals as goal

pub returns-clause-no_feed : goal.returns-clause-no_feed
returns-clause-no_feed c =
    let e = c.args.extent in
    let line : e.line < 2 ^ 64 = omega (arith, c.well_formed) in
    let column : e.column < 2 ^ 64 = omega (arith, c.well_formed) in
    let end_line : e.end_line < 2 ^ 64 = omega (arith, c.well_formed) in
    let end_column : e.end_column < 2 ^ 64 = omega (arith, c.well_formed) in
    subst (λ (d : Data). feeds (compact_text d) ≡ 0) (sym c.in_ok-value.ensures) (feeds_replacing e _ line column end_line end_column)

pub returns-clause-no_float : goal.returns-clause-no_float
returns-clause-no_float c = subst (λ (d : Data). has_float d ≡ false) (sym c.in_ok-value.ensures) refl
