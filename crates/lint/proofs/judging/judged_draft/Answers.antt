use Rattle.std.proofs.Common.{◌∙◌, ℕ, List, Option, ap, rules}
use Rattle.base_text.specs.declared.detail.TextFault.{TextFault}
use Rattle.base_text.specs.declared.listed.Listed.{Listed}
use Rattle.base_text.specs.Drafts.{DraftView}
use Rattle.lint.proofs.judging.judged_draft.Goals as goal

abbrev drafted : Option ℕ → List ℕ → List Listed → List TextFault → DraftView
drafted entry outside frames faults = record { entry = entry; outside = outside; frames = frames; faults = faults }

pub judged_faulty-requires : goal.judged_faulty-requires
judged_faulty-requires c =
    let d = c.draft.inside in
    let is = ap (drafted d.entry d.outside.items d.frames.items) c.as_slice-in_default.ensures.value ∙ (c.draft.view_is ∙ c.requires.3) in
    (d.entry, (c.requires.0, c.requires.1, c.requires.2, is), search rules)
