use Rattle.std.proofs.Common.{refl}
use Rattle.std.proofs.lemmas.Option.{slice_get_read}
use Rattle.finder.proofs.Noted.{noted}
use Rattle.finder.proofs.notes.add_note.Goals as goal

pub returns-in-Some : goal.returns-in-Some
returns-in-Some c = noted _ _ c.args.notes.now.items c.in-Some.slot _ c.index-frames-node.result _ c.requires.noted (slice_get_read c.args.frames.now _ c.args.node _ refl c.requires.inside c.index-frames-node.is) c.of.ensures.page c.of.ensures.letter c.of.ensures.node c.of.ensures.is_open
