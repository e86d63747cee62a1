use Rattle.std.proofs.Common.{◌≡◌, ◌∙◌, ℕ, ◌<◌, false, List, [], ◌∷◌, ◌++◌, refl, arith, rules, None}
use Rattle.std.specs.Prelude.{◌==◌}
use Rattle.std.proofs.lemmas.Bool.Decides.{nat_tests}
use Rattle.lint_words.specs.FaultWords.{none_reached_words}
use Rattle.lint_words.specs.WordsOf.{WordsView}
use Rattle.toml_places.specs.declared.spans.Span.{Span}
use Rattle.toml_places.specs.Places.{Mark}
use Rattle.lint.specs.Findings.{FindingView, warning_at}
use Rattle.lint.specs.Tables.{TableView, table_at}
use Rattle.lint.specs.Spots.{entry_span}
use Rattle.lint.specs.Lint.{none_reached}
use Rattle.lint.proofs.audit_findings.Sources.add_none_reached.Goals as goal

said : (text : List ℕ) (ms : List Mark) (before after : List FindingView) (n : ℕ) (seen : TableView) (span : Span) (words : WordsView) (f : FindingView)
    → 0 < n → seen ≡ table_at text ms None → span ≡ entry_span seen → words ≡ none_reached_words n → f ≡ warning_at span words → after ≡ before ++ f ∷ []
    → after ≡ before ++ none_reached text ms n
said text ms before after n seen span words f some is of_span of_words made pushed =
    let no : (n == 0) ≡ false = grind (arith, nat_tests, some) in
    pushed ∙ rw (no, made, of_span, of_words, is) refl

pub returns-in_ok-push : goal.returns-in_ok-push
returns-in_ok-push c = λ ms tables are.
    let some : 0 < c.args.frames = search rules in
    said c.args.self.now.text.now.text.now ms _ _ c.args.frames _ c.entry_span.result _ _ some
    (c.in_ok-table.ensures ms are.places) c.entry_span.ensures c.in_ok-words.ensures c.warning.ensures c.in_ok-push.ensures.items
