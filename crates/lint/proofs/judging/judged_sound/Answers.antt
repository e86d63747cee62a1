use Rattle.std.proofs.Common.{◌≡◌, ◌∙◌, map, ap, subst, rules}
use Rattle.page_ids.proofs.Truths.{weaken}
use Rattle.toml_places.specs.Places.{marks}
use Rattle.lint.specs.Lint.{whole_finding, tables_of, AreAuditFindings}
use Rattle.lint.specs.Loops.{sound_draft}
use Rattle.lint.proofs.Judged.{parsed, of_base, of_faults, whole_some}
use Rattle.lint.proofs.judging.judged_sound.Goals as goal

pub returns-in-Ok : goal.returns-in-Ok
returns-in-Ok c =
    let text = c.args.text.now in
    let policy = c.args.policy.now in
    let base = c.in-Ok.base in
    let tables : c.as_slice-in-Ok.result.now ≡ tables_of c.args.frames.items = c.as_slice-in-Ok.ensures.value ∙ c.in_ok-tables.ensures ∙ ap tables_of c.as_slice.ensures.value in
    weaken c.audited.result (λ fs audited.
    of_base text policy fs.items c.args.entry c.args.outside.items c.args.frames.items c.requires base (search rules) (search rules)
    (subst (λ t. AreAuditFindings text (marks text) t base policy fs.items) tables (audited c.requires.0 (parsed text c.requires.0 c.requires.2)))) c.audited.ensures

pub returns : goal.returns
returns c =
    let text = c.args.text.now in
    let policy = c.args.policy.now in
    let whole = c.in-Err.whole.items in
    weaken c.faulty.result (λ fs found.
    of_faults text policy fs.items (sound_draft c.args.entry c.args.outside.items c.args.frames.items) whole c.requires (search rules) (whole_some whole (search rules))
    (found c.requires.0 (parsed text c.requires.0 c.requires.2) ∙ ap (λ ws. map (whole_finding text (marks text)) ws) c.as_slice-in-Err.ensures.value)) c.faulty.ensures
