use Rattle.std.proofs.Common.{◌≡◌, ◌∙◌, ℕ, ap, refl, Option, None}
use Rattle.base_text.specs.declared.whole_fault.WholeFault.{WholeFault}
use Rattle.base_text.specs.declared.whole_fault.WholeFault.TheVariants.{TooManyFrames, TooManyOutside, BodyTooLong, NextAfterZ, Duplicate, OutsideInside}
use Rattle.lint_words.specs.WholeWords.{whole_fault_words}
use Rattle.lint_words.specs.WordsOf.{WordsView}
use Rattle.toml_places.specs.declared.spans.Span.{Span}
use Rattle.lint.specs.Findings.{FindingView, error_at}
use Rattle.lint.specs.Tables.{TableView, table_at}
use Rattle.lint.specs.Spots.{whole_span}
use Rattle.lint.specs.Outside.{page_at, outside_element}
use Rattle.lint.proofs.text_findings.whole_finding.Goals as goal

found : (fault : WholeFault) (seen table : TableView) (one element : Option Span) (span : Span) (line first : ℕ) (words : WordsView) (f : FindingView)
    → seen ≡ table → one ≡ element → span ≡ whole_span seen one fault → line ≡ first → words ≡ whole_fault_words fault line → f ≡ error_at span words
    → f ≡ error_at (whole_span table element fault) (whole_fault_words fault first)
found fault seen table one element span line first words f is of_one of_span of_line of_words made = made ∙ rw (of_span, of_words, of_line, is, of_one) refl

element_known : (known at : ℕ → Option Span) (fault : WholeFault) → ((page : ℕ) → known page ≡ at page) → outside_element known fault ≡ outside_element at fault
element_known known at (TooManyFrames n) is = refl
element_known known at (TooManyOutside n) is = refl
element_known known at (BodyTooLong table id n) is = refl
element_known known at (NextAfterZ table id) is = refl
element_known known at (Duplicate table first id) is = refl
element_known known at (OutsideInside page) is = is page

pub returns-clause-finding : goal.returns-clause-finding
returns-clause-finding c ms knows lines lists is =
    let text = c.args.tables.now.text.now in
    let fault = c.args.fault.now in
    found fault _ (table_at text ms _) _ (outside_element (page_at (table_at text ms None)) fault) c.whole_span-span.result c.first_line.result _ _ c.error.result
    (c.in_ok-turn.ensures.turned ms knows is ∙ ap (table_at text ms) c.whole_table.ensures)
    (c.element.ensures ∙ element_known _ _ fault lists)
    c.whole_span-span.ensures (c.first_line.ensures ms knows lines)
    c.in_ok-words.ensures c.error.ensures
