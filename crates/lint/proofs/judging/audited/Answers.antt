use Rattle.std.proofs.Common.{subst, rules}
use Rattle.std.specs.Prelude.{IsSome}
use Rattle.toml.specs.Parse.{parse_document}
use Rattle.toml_places.specs.Places.{marks}
use Rattle.page_ids.proofs.Truths.{weaken}
use Rattle.lint.specs.Lint.{AreAuditFindings}
use Rattle.lint.proofs.judging.audited.Goals as goal

pub returns : goal.returns
returns c =
    let text = c.args.text.now in
    let tables = c.args.tables.now in
    weaken c.findings.result (λ fs are ms parsed.
    let some : IsSome (parse_document text) = search rules in
    subst (λ t. AreAuditFindings t (marks text) tables c.args.base.now c.args.policy.now fs.items) c.in_ok-written.ensures.text
    (are (marks text) tables (record { places = c.in_ok-written.ensures.knows (marks text) (c.in_ok-places.ensures some); knows = c.in_ok-of.ensures })))
    c.findings.ensures
