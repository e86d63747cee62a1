-- The screens of frames.
use Rattle.std.specs.Prelude.{ℕ, Bool, List, is_some}
use Rattle.page_ids.specs.Ids.{Id}
use Rattle.frame_records.specs.Bases.{BaseView}
use Rattle.finder.specs.declared.found.Discovered.{Discovered}
use Rattle.screens.specs.declared.look.Look.{Look}
use Rattle.screens.specs.Looks.{looks}
use Rattle.frame_screens.specs.Frames.{way_by, place_of}
use Rattle.frame_screens.specs.Screens.{screen_codes}

-- whether a key reaches a frame: it is listed
abbrev pub is_reached : List Discovered → Id → Bool
is_reached found id = is_some (place_of found id)

-- the frames that are sent for the screen of a frame, by the list of those that are reached
abbrev pub way_of : List ℕ → BaseView → List Discovered → Id → List Id
way_of caller base found id = way_by caller base found id (place_of found id)

-- the looks of its cells, row by row
abbrev pub screen_of : List ℕ → BaseView → List Discovered → Id → List (List Look)
screen_of caller base found id = looks (screen_codes base (way_of caller base found id))
