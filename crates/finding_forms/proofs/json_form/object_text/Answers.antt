use Rattle.std.proofs.Common.{◌≡◌, false, subst, option_copied, IfOk, string_bytes}
use Rattle.serde_json.specs.Data.{Data}
use Rattle.serde_json.specs.View.{view}
use Rattle.serde_json.specs.Written.{compact_text, has_float}
use Rattle.finding_forms.proofs.Objects.{no_float_object}
use Rattle.finding_forms.proofs.Printed.{if_ok}
use Rattle.finding_forms.proofs.json_form.object_text.Goals as goal

pub returns : goal.returns
returns c =
    let none = no_float_object c.args.file.now c.args.extent c.args.level c.args.words.now (option_copied c.args.hint) (view c.args.fix) c.requires in
    let text = subst (λ (d : Data). IfOk c.to_string.result (λ s. has_float d ≡ false → string_bytes s ≡ compact_text d))
    c.in_ok-object.ensures c.to_string.ensures.text in
    if_ok c.to_string.result text (λ s p. p none)
