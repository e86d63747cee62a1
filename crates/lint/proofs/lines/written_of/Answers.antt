use Rattle.std.proofs.Common.{◌∙◌, rules}
use Rattle.lint.proofs.Written.{faulty_draft}
use Rattle.lint.proofs.lines.written_of.Goals as goal

pub returns-in_default : goal.returns-in_default
returns-in_default c =
    let d = c.draft.inside in
    faulty_draft c.args.text.now d.outside.items d.frames.items d.faults.items
    (d.entry, (c.requires.0, c.requires.1, c.requires.2, c.draft.view_is ∙ c.requires.3), search rules)
