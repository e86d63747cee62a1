-- The file, read as markup.
use Rattle.std.specs.Prelude.{◌≡◌, true, All, List, ◌++◌, Option, map}
use Rattle.std.specs.List.{flat_map}
use Rattle.page_ids.specs.Ids.{Id, IsFrameId}
use Rattle.frame_records.specs.declared.frame.Frame.{Frame}
use Rattle.checker.specs.declared.policy.Policy.{Policy}
use Rattle.fault_scripts.specs.declared.outcome.Outcome.{Outcome}
use Rattle.finder.specs.Parts.{part_shows}
use Rattle.screens.specs.Svg.{Piece}
use Rattle.screens.specs.Laws.{raw, tags_of}
use Rattle.base_pages.specs.Sections.{BookView, section_pieces, shown_frames}
use Rattle.base_pages.specs.Head.{header_pieces}
use Rattle.base_pages.specs.Shell.{head, middle, foot}

-- the sections of the frames that are shown
abbrev pub body_pieces : BookView → List Piece
body_pieces b = flat_map (section_pieces b) (shown_frames b b.base.frames)

-- what a reader that knows nothing of bases finds: the tags of the fixed parts, of the header and of the sections, each with the
-- characters after it
abbrev pub page_tags : Policy → Outcome → BookView → List Piece
page_tags policy outcome b =
    tags_of head ++ (map raw (header_pieces b.source.name b.base policy outcome) ++ (tags_of middle ++ (map raw (body_pieces b) ++ tags_of foot)))

-- the frames that are shown have ids
abbrev pub HasId : Option (List Id) → Frame → Type 0
HasId part f = part_shows part f.id ≡ true → IsFrameId f.id

abbrev pub HaveIds : Option (List Id) → List Frame → Type 0
HaveIds part frames = All (HasId part) frames
