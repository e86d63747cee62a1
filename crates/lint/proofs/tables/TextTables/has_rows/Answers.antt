use Rattle.std.proofs.Common.{◌∙◌, ap, codes, is_some}
use Rattle.lint.specs.Loops.{KeysView}
use Rattle.lint.proofs.tables.TextTables.has_rows.Goals as goal

pub returns : goal.returns
returns c = λ ms knows.
    c.is_some.ensures ∙ ap is_some (c.key.ensures ∙ ap (λ (k : KeysView). k.key (codes "rows")) (c.in_ok-keys.ensures ms knows))
