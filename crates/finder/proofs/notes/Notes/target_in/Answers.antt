use Rattle.std.proofs.Common.{get_or, length, sym, ◌∙◌, ap, subst, arith}
use Rattle.finder.specs.Loops.Noted.{IsNote}
use Rattle.finder.proofs.notes.Notes.target_in.Goals as goal

pub returns-then-is_of : goal.returns-then-is_of
returns-then-is_of c =
    let self = c.args.self.now in
    let note = c.in_ok-note.note.now in
    let there = c.in_ok-note.ensures.lookup in
    let at = there.1 ∙ ap (λ notes. get_or notes c.args.slot note) c.deref.ensures.value in
    let noted = self.noted.each c.args.slot note (omega (arith, there.3.0, ap length c.deref.ensures.value)) in
    (note.node, note.is_open, subst (IsNote self.groups.now self.base.now.frames) (sym at) noted c.args.id.now (c.is_of.ensures c.if-is_of.true), c.target.ensures)
