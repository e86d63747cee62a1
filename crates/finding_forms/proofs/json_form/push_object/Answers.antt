use Rattle.std.proofs.Common.{◌≡◌, ◌∙◌, ap, sym, subst, option_copied, List, ℕ}
use Rattle.std.specs.Str.Lossy.{utf8_lossy}
use Rattle.serde_json.specs.Data.{Data}
use Rattle.serde_json.specs.View.{view}
use Rattle.serde_json.specs.Written.{compact_text}
use Rattle.toml_places.specs.declared.text_lines.Extent.{Extent}
use Rattle.toml_places.specs.Extents.{extent}
use Rattle.lint.specs.Findings.{FindingView}
use Rattle.slip_fixes.specs.Certain.{certain_fix}
use Rattle.finding_forms.specs.JsonForm.{fix_data, object_data}
use Rattle.finding_forms.specs.Loops.{AddsObject}
use Rattle.finding_forms.proofs.Printed.{both_on}
use Rattle.finding_forms.proofs.json_form.push_object.Goals as goal

pub returns : goal.returns
returns c =
    let f = c.finding.inside in
    let v : FindingView = record { span = f.span; level = f.level; words = f.words } in
    let text = c.args.lines.now in
    let old = c.args.out.now.items in
    let new = c.push_object_line.new.out.items in
    let hint = option_copied c.hint.result in
    let fix = view c.in_ok-fix.fix in
    let fix_is : fix ≡ fix_data text (certain_fix text v) =
    c.in_ok-fix.ensures.value ∙ ap (λ (w : FindingView). fix_data text (certain_fix text w)) (sym c.finding.view_is) in
    let line = compact_text (object_data c.args.file.now c.extent-extent.result f.level f.words hint fix) in
    both_on c.push_object_line.result c.push_object_line.ensures.line c.push_object_line.ensures.no_feed (λ added no_feed. λ bytes given.
    let is = ap (λ (file : List ℕ). compact_text (object_data file c.extent-extent.result f.level f.words hint fix)) given
    ∙ (ap (λ (e : Extent). compact_text (object_data (utf8_lossy bytes) e f.level f.words hint fix)) c.extent-extent.ensures
    ∙ ap (λ (d : Data). compact_text (object_data (utf8_lossy bytes) (extent text f.span) f.level f.words hint d)) fix_is) in
    let adds : AddsObject bytes text v old new = (line, record { hint = hint; is = is; no_feed = no_feed }, added) in
    subst (λ (w : FindingView). AddsObject bytes text w old new) c.finding.view_is adds)
