use Rattle.std.proofs.Common.{◌≡◌, map, take}
use Rattle.finder.specs.Loops.Noted.{AreNotes}
use Rattle.finder.proofs.notes.Notes.of.Given as goal

abbrev pub invariant-loop-node : goal.invariant-loop-node
invariant-loop-node l = record {
  noted : AreNotes l.groups l.base.frames l.notes.items;
  ids : l.ids.items ≡ map (λ f. f.id) (take l.node l.base.frames);
}
