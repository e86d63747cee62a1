use Rattle.std.proofs.Common.{◌≡◌, ◌||◌, length}
use Rattle.page_ids.specs.Ids.{Id}
use Rattle.screen_files.specs.Routes.{has_frame, knows_frame}
use Rattle.screen_files.proofs.routes.Known.add_frames.Given as goal

-- what is known and what is left is all
abbrev pub invariant-loop-filed : goal.invariant-loop-filed
invariant-loop-filed l = (id : Id) → (has_frame l.rest id || knows_frame l.self id) ≡ (has_frame l.frames id || knows_frame l.fn.self id)

abbrev pub decreases-loop-filed : goal.decreases-loop-filed
decreases-loop-filed l = length l.rest
