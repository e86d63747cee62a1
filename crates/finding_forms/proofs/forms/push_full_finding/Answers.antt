use Rattle.std.proofs.Common.{◌≡◌, ◌∙◌, ℕ, List, ◌++◌, codes, ap, sym, subst, refl, append_assoc}
use Rattle.lint.specs.Findings.{FindingView}
use Rattle.toml_places.specs.declared.text_lines.Extent.{Extent}
use Rattle.toml_places.specs.Extents.{extent}
use Rattle.finding_forms.specs.Excerpts.{mark_length}
use Rattle.finding_forms.specs.declared.format.Format.TheVariants.{Full}
use Rattle.finding_forms.specs.Loops.{AddsLine, AddsPrinted}
use Rattle.finding_forms.specs.declared.paint.Paint.TheVariants.{Plain}
use Rattle.finding_forms.specs.FullForm.{lines_below, source_text}
use Rattle.finding_forms.proofs.Printed.{on}
use Rattle.finding_forms.proofs.forms.push_full_finding.Goals as goal

pub returns : goal.returns
returns c =
    let f = c.finding.inside in
    let v : FindingView = record { span = f.span; level = f.level; words = f.words } in
    let text = c.args.text.now in
    let old = c.args.out.now.items in
    let middle = c.push_line_finding.new.out.items in
    let new = c.push_lines_below.new.out.items in
    let number : c.extent.result.line ≡ (extent text f.span).line =
    ap (λ (e : Extent). e.line) c.extent.ensures ∙ ap (λ (t : List ℕ). (extent t f.span).line) c.requires in
    on c.push_lines_below.result c.push_lines_below.ensures (λ below. λ bytes shown.
    let adds : AddsLine bytes text v old middle =
    subst (λ (w : FindingView). AddsLine bytes text w old middle) (sym c.finding.view_is)
    (subst (λ (t : List ℕ). AddsLine bytes t c.args.finding.now old middle) c.requires (c.in_ok-push_line_finding.ensures bytes shown)) in
    let (line, is, made) = adds in
    let lines = ap (λ (n : ℕ). lines_below Plain text (mark_length text) f.span n) number in
    let added : new ≡ old ++ (line ++ codes "\n" ++ source_text Plain text f.span) =
    below ∙ (ap (λ (xs : List ℕ). middle ++ xs) lines ∙ (ap (λ (xs : List ℕ). xs ++ source_text Plain text f.span) made
    ∙ append_assoc old (line ++ codes "\n") (source_text Plain text f.span))) in
    let all : AddsPrinted Full bytes text v old new =
    (line ++ codes "\n" ++ source_text Plain text f.span, record { line = line; is_line = is; is = refl }, added) in
    subst (λ (w : FindingView). AddsPrinted Full bytes text w old new) c.finding.view_is all)
