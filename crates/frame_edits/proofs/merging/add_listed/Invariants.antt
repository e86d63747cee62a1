use Rattle.std.proofs.Common.{◌≡◌, ◌||◌, length}
use Rattle.page_ids.specs.Ids.{Id}
use Rattle.screen_files.specs.Routes.{knows_frame}
use Rattle.frame_edits.specs.Merging.{lists_frame}
use Rattle.frame_edits.proofs.merging.add_listed.Given as goal

-- what is known and what is left is all
abbrev pub invariant-loop-one : goal.invariant-loop-one
invariant-loop-one l = (id : Id) → (lists_frame l.rest id || knows_frame l.known id) ≡ (lists_frame l.listed id || knows_frame l.fn.known id)

abbrev pub decreases-loop-one : goal.decreases-loop-one
decreases-loop-one l = length l.rest
