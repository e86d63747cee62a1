use Rattle.std.proofs.Common.{inr, rules}
use Rattle.toml.specs.View.{view}
use Rattle.base_text.specs.Frames.{frame_index, element_of}
use Rattle.base_text.proofs.KeptDetails.{clean, begins}
use Rattle.base_text.proofs.text.read_frame.Goals as goal

pub returns-in-Some : goal.returns-in-Some
returns-in-Some c =
    let e = element_of (view c.args.value) in
    inr (begins c.args.index e.id e.details c.in-Some.fault (search rules))

pub returns-in-None : goal.returns-in-None
returns-in-None c = (clean (frame_index c.args.index) (element_of (view c.args.value)).details (search rules), search rules)
