use Rattle.std.proofs.Common.{sym, ap, ◌∙◌}
use Rattle.editions.specs.NumberLines.{number_line}
use Rattle.editions.proofs.LineLaws.{number_named}
use Rattle.publishing.proofs.serving.named_edition.Goals as goal

pub returns-in-Ok-clause-named : goal.returns-in-Ok-clause-named
returns-in-Ok-clause-named g c =
    (number_named c.args.text.now c.in-Some.number (sym c.in-Some.ensures.value)).1 ∙ ap number_line (sym c.in-Ok.ensures.number)
