use Rattle.std.proofs.Common.{◌∙◌, ap, subst, option_copied}
use Rattle.lint_words.specs.Lines.{IsLine, line_of}
use Rattle.lint.specs.Findings.{FindingView}
use Rattle.finding_forms.specs.FullForm.{coloured_line}
use Rattle.finding_forms.specs.LineForm.{line_text}
use Rattle.finding_forms.specs.Loops.{AddsColouredLine}
use Rattle.finding_forms.proofs.Printed.{both_on}
use Rattle.finding_forms.proofs.coloured_form.push_coloured_finding.Goals as goal

pub returns : goal.returns
returns c =
    let f = c.finding.inside in
    let old = c.args.out.now.items in
    let new = c.push_coloured_line.new.out.items in
    let hint = option_copied c.hint.result in
    let line = coloured_line c.args.path.now c.begin_of-place.result f.level f.words hint in
    both_on c.push_coloured_line.result c.push_coloured_line.ensures.line c.push_coloured_line.ensures.is_line (λ added is_line. λ bytes shown.
    let is = ap (λ path. coloured_line path c.begin_of-place.result f.level f.words hint) shown
    ∙ ap (λ place. coloured_line (line_of bytes) place f.level f.words hint) c.begin_of-place.ensures in
    let plain = subst (λ place. IsLine (line_text (line_of bytes) place f.level f.words hint)) c.begin_of-place.ensures
    (subst (λ path. IsLine (line_text path c.begin_of-place.result f.level f.words hint)) shown is_line) in
    let adds : AddsColouredLine bytes c.args.lines.now (record { span = f.span; level = f.level; words = f.words }) old new = (line, record { hint = hint; is = is; is_line = plain }, added) in
    subst (λ (v : FindingView). AddsColouredLine bytes c.args.lines.now v old new) c.finding.view_is adds)
