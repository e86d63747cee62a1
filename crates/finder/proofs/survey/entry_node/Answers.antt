use Rattle.std.proofs.Common.{Some, sym, ◌∙◌, ap, subst}
use Rattle.finder.proofs.Words.{frame_at, IsSought}
use Rattle.finder.proofs.Whole.{entry_by, entry_missing}
use Rattle.finder.proofs.survey.entry_node.Goals as goal

pub returns-in-Some : goal.returns-in-Some
returns-in-Some c =
    let notes = c.args.notes.now in
    rw c.node.ensures (entry_by notes.groups.now notes.base.now c.in-Some.target notes.valid.ascending (subst (λ id. IsSought notes.groups.now notes.base.now.frames id (Some c.in-Some.target)) c.entry_frame.ensures.value c.in-Some.ensures))

pub returns-in-None : goal.returns-in-None
returns-in-None c =
    let notes = c.args.notes.now in
    entry_missing notes.groups.now notes.base.now (ap (frame_at notes.base.now) (sym c.entry_frame.ensures.value) ∙ c.in-None.ensures)
