use Rattle.std.proofs.Common.{◌≡◌}
use Rattle.page_ids.specs.Ids.{Id, id_eq}
use Rattle.indexmap.specs.IndexMap.{get}
use Rattle.frame_screens.specs.Frames.{place_of}
use Rattle.frame_screens.specs.Loops.{if_before}
use Rattle.frame_screens.proofs.places.FramePlaces.of.Given as goal

-- the first places are held
abbrev pub invariant-loop-place : goal.invariant-loop-place
invariant-loop-place l = (id : Id) → get id_eq l.map id ≡ if_before l.place (place_of l.survey.found id)
