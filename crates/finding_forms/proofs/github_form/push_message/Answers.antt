use Rattle.std.proofs.Common.{subst}
use Rattle.lint_words.specs.Lines.{IsLine}
use Rattle.finding_forms.proofs.Printed.{on}
use Rattle.finding_forms.proofs.github_form.push_message.Goals as goal

pub returns-clause-is_line : goal.returns-clause-is_line
returns-clause-is_line c =
    on c.push_hint.result c.push_hint.ensures.is_line (λ hint. (subst IsLine c.message.ensures c.in_ok-push_escaped.ensures.is_line, hint))
