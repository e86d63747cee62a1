use Rattle.std.proofs.Common.{◌∙◌, ◌++◌, map, ap}
use Rattle.page_ids.proofs.Truths.{weaken}
use Rattle.base_text.specs.Drafts.{DraftView}
use Rattle.toml_places.specs.Places.{marks}
use Rattle.lint.specs.Lint.{text_finding, whole_finding}
use Rattle.lint.proofs.Judged.{parsed, of_faults, faulty_some}
use Rattle.lint.proofs.judging.judged_faulty.Goals as goal

pub returns : goal.returns
returns c =
    let text = c.args.text.now in
    let outside = c.args.outside.items in
    let frames = c.args.frames.items in
    let faults = c.args.faults.now in
    let whole = c.in_ok-whole.whole.items in
    let is = c.requires in
    let d : DraftView = record { entry = is.0; outside = outside; frames = frames; faults = faults } in
    weaken c.faulty.result (λ fs found policy.
    of_faults text policy fs.items d whole is.1 (c.whole_faults.new.outside.items, c.whole_faults.new.frames.items, c.in_ok-whole.ensures)
    (faulty_some text outside frames faults whole is)
    (found is.1.0 (parsed text is.1.0 is.1.2) ∙ ap (λ ws. map (text_finding text (marks text)) faults ++ map (whole_finding text (marks text)) ws) c.as_slice.ensures.value)) c.faulty.ensures
