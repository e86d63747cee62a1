use Rattle.std.proofs.Common.{◌∙◌, ap, subst, option_copied}
use Rattle.lint_words.specs.Lines.{line_of}
use Rattle.lint.specs.Findings.{FindingView}
use Rattle.finding_forms.specs.GithubForm.{command_text}
use Rattle.finding_forms.specs.Loops.{AddsCommand}
use Rattle.finding_forms.proofs.Printed.{both_on}
use Rattle.finding_forms.proofs.github_form.push_command.Goals as goal

pub returns : goal.returns
returns c =
    let f = c.finding.inside in
    let old = c.args.out.now.items in
    let new = c.push_command_line.new.out.items in
    let hint = option_copied c.hint.result in
    let line = command_text c.args.path.now c.extent-extent.result f.level f.words hint in
    both_on c.push_command_line.result c.push_command_line.ensures.line c.push_command_line.ensures.is_line (λ added is_line. λ bytes shown.
    let is = ap (λ path. command_text path c.extent-extent.result f.level f.words hint) shown
    ∙ ap (λ e. command_text (line_of bytes) e f.level f.words hint) c.extent-extent.ensures in
    let adds : AddsCommand bytes c.args.lines.now (record { span = f.span; level = f.level; words = f.words }) old new = (line, record { hint = hint; is = is; is_line = is_line }, added) in
    subst (λ (v : FindingView). AddsCommand bytes c.args.lines.now v old new) c.finding.view_is adds)
