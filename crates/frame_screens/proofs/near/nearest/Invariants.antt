use Rattle.std.proofs.Common.{◌≡◌, drop, map}
use Rattle.page_ids.specs.Ids.{frame_text}
use Rattle.near_words.specs.Near.{found_after, nearest}
use Rattle.frame_screens.specs.Frames.{ids_of}
use Rattle.frame_screens.proofs.near.nearest.Given as goal

-- what is found, and the frames that are left, lead to the nearest of all
abbrev pub invariant-loop-frame : goal.invariant-loop-frame
invariant-loop-frame l =
    found_after frame_text l.search l.found (map (λ f. f.id) (drop l.frame-index l.frame-items))
    ≡ nearest frame_text (frame_text l.fn.id) (ids_of l.base)
