use Rattle.std.proofs.Common.{◌∙◌, ◌++◌, sym, ap}
use Rattle.page_ids.proofs.Truths.{weaken}
use Rattle.lint.specs.Lint.{unreached_findings}
use Rattle.lint.proofs.audit_findings.Sources.add_unreached.Goals as goal

pub returns-then-finds_none : goal.returns-then-finds_none
returns-then-finds_none c =
    let text = c.args.self.now.text.now.text.now in
    weaken c.add_none_reached.result (λ u adds ms tables are.
    adds ms tables are ∙ ap (λ b. c.args.findings.now.items ++ unreached_findings text ms tables b c.args.ids.now) (sym c.if-finds_none.true))
    c.add_none_reached.ensures
