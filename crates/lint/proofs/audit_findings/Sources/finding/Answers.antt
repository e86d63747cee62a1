use Rattle.std.proofs.Common.{◌≡◌, ◌∙◌, ℕ, List, Option, ap, refl}
use Rattle.page_ids.specs.Ids.{Id}
use Rattle.frame_records.specs.Bases.{BaseView}
use Rattle.checker.specs.declared.policy.Policy.{Policy}
use Rattle.base_faults.specs.declared.fault.Fault.{Fault}
use Rattle.lint_words.specs.declared.fault_words.Judged.{Judged}
use Rattle.lint_words.specs.FaultWords.{audit_fault_words}
use Rattle.lint_words.specs.WordsOf.{WordsView}
use Rattle.toml_places.specs.declared.spans.Span.{Span}
use Rattle.lint.specs.Findings.{FindingView, error_at}
use Rattle.lint.specs.Tables.{TableView, table_at}
use Rattle.lint.specs.Spots.{audit_span, kind_table}
use Rattle.lint.specs.Lint.{judged}
use Rattle.lint.proofs.audit_findings.Sources.finding.Goals as goal

found : (base : BaseView) (policy : Policy) (ranks : List (Id × Option ℕ)) (fault : Fault) (seen table : TableView) (span : Span) (j : Judged) (words : WordsView) (f : FindingView)
    → seen ≡ table → span ≡ audit_span seen fault → j ≡ judged seen base policy ranks fault → words ≡ audit_fault_words j fault → f ≡ error_at span words
    → f ≡ error_at (audit_span table fault) (audit_fault_words (judged table base policy ranks fault) fault)
found base policy ranks fault seen table span j words f is of_span of_judged of_words made = made ∙ rw (of_span, of_words, of_judged, is) refl

pub returns-clause-finding : goal.returns-clause-finding
returns-clause-finding c ms tables known are knows is =
    let text = c.args.self.now.text.now.text.now in
    let fault = c.args.fault.now in
    let frame = c.kind_table-frame.ensures ∙ ap (λ (k : ℕ). kind_table k fault.kind) (c.table_of.ensures tables are.knows) in
    found c.args.self.now.base.now c.args.self.now.policy.now known fault _ (table_at text ms _) c.audit_span.result c.judged-judged.result _ c.error.result
    (c.in_ok-turn.ensures.turned ms are.places is ∙ ap (table_at text ms) frame)
    c.audit_span.ensures (c.judged-judged.ensures known knows)
    c.in_ok-words.ensures c.error.ensures
