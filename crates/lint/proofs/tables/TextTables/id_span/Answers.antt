use Rattle.std.proofs.Common.{◌∙◌, ap, Some, unwrap_or}
use Rattle.lint.specs.Loops.{id_seen, keys_of}
use Rattle.lint.proofs.tables.TextTables.id_span.Goals as goal

pub returns : goal.returns
returns c = λ ms knows.
    let text = c.args.self.now.text.now in
    c.unwrap_or.ensures
    ∙ (ap (λ o. unwrap_or o c.frame_whole.result) (c.id_value.ensures ∙ ap (id_seen text) (c.in_ok-keys.ensures ms knows))
    ∙ ap (unwrap_or (id_seen text (keys_of text ms (Some c.args.frame)))) (c.frame_whole.ensures ms knows))
