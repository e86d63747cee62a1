use Rattle.std.proofs.Common.{◌≡◌, ℕ, List, rules, subst}
use Rattle.lint.specs.Findings.{FindingView}
use Rattle.finding_forms.specs.Forms.{ArePrinted}
use Rattle.pageaudit.specs.Files.{device, IsTextOfFile, IsTextWritten}
use Rattle.pageaudit.specs.LintRun.{AreCounted, written_findings}
use Rattle.pageaudit.proofs.Runs.{lint_run}
use Rattle.pageaudit.proofs.lint_run.run_lint.Goals as goal
use Rattle.pageaudit.proofs.lint_run.run_lint.Goals.{then-report, else-report}

pub returns-in-Ok-findings_text : goal.returns-in-Ok-findings_text
returns-in-Ok-findings_text g c =
    let base_file = device g.B.Source.seen c.args.base.now c.read_whole.new.source in
    let out = device g.O.Sink.seen c.args.out.now c.write_text.new.out in
    let path = c.args.path.now in
    let policy = c.args.policy.now in
    let report = c.args.report.now in
    let text = c.in-Ok.text.items in
    let findings = c.in-Ok-counted.findings.items in
    let counts = c.in-Ok-counted.counts in
    let lines = c.in-Ok-findings_text.lines.items in
    let shown = c.if-report.findings.items in
    let read : IsTextOfFile base_file text = search rules in
    let are = subst (λ (t : List ℕ). AreCounted t policy report.ignored findings counts) c.as_slice.ensures.value c.in-Ok-counted.ensures in
    let shown_is : shown ≡ written_findings report.is_quiet findings = elim c.if-report.branch [
      | then-report w ↦ search rules
      | else-report w ↦ search rules
    ] in
    let of_shown : ArePrinted report.format path text shown lines = search rules in
    let are_printed = subst (λ (fs : List FindingView). ArePrinted report.format path text fs lines) shown_is of_shown in
    let written : IsTextWritten out lines counts c.write_text.result = search rules in
    lint_run base_file out path text read policy report findings counts are lines are_printed c.write_text.result written
