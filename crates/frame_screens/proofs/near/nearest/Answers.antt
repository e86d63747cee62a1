use Rattle.std.proofs.Common.{arith}
use Rattle.std.proofs.lemmas.Grind.{common_steps}
use Rattle.page_ids.specs.Ids.{frame_text}
use Rattle.near_words.proofs.Nearest.{found_is_nearest}
use Rattle.frame_screens.specs.Frames.{ids_of}
use Rattle.frame_screens.proofs.near.nearest.Goals as goal

pub returns-clause-meaning : goal.returns-clause-meaning
returns-clause-meaning c =
    found_is_nearest frame_text (frame_text c.args.id) (ids_of c.args.base.now) c.loop-frame.found
    (grind (arith, common_steps, c.loop-frame.invariant))
