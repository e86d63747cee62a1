use Rattle.std.proofs.Common.{subst, option_copied}
use Rattle.lint_words.specs.Lines.{IsLine}
use Rattle.finding_forms.proofs.Printed.{on, IsLine-words}
use Rattle.finding_forms.proofs.line_form.push_words.Goals as goal

pub returns-clause-is_line : goal.returns-clause-is_line
returns-clause-is_line c =
    let message = subst IsLine c.message.ensures c.as_str.ensures.line in
    on c.push_hint.result c.push_hint.ensures.is_line (λ is. IsLine-words c.args.words.now (option_copied c.args.hint) message is)
