-- The ways on from a frame, in HTML. A caller is the list of the closed user groups to which the caller belongs.
use Rattle.std.specs.Prelude.{ℕ, List, [], ◌∷◌, ◌++◌, Option, codes, if◌then◌else◌}
use Rattle.std.specs.List.{flat_map}
use Rattle.page_ids.specs.Ids.{Id, frame_text, page_text}
use Rattle.page_ids.specs.Keys.{key_word}
use Rattle.page_ids.specs.declared.key.Key.{Key}
use Rattle.page_ids.specs.Ways.{way_key, ways}
use Rattle.frame_records.specs.declared.frame.Frame.{Frame}
use Rattle.frame_records.specs.declared.ways.Destination.{Destination}
use Rattle.frame_records.specs.declared.ways.Destination.TheVariants.{NotOffered, Found, Closed, Missing, Outside}
use Rattle.frame_records.specs.Bases.{BaseView}
use Rattle.frame_records.specs.Ways.{destination_of}
use Rattle.finder.specs.Parts.{part_shows}
use Rattle.screens.specs.Svg.{Piece}
use Rattle.base_pages.specs.Elements.{element_pieces, around}

-- a link to the section of a frame
abbrev pub link_attributes : Id → Key → List (List ℕ × List ℕ)
link_attributes to key = (codes "href", codes "#" ++ frame_text to) ∷ (codes "data-key", key_word key) ∷ []

abbrev pub link : Id → Key → List Piece
link to key = element_pieces (codes "a") (link_attributes to key) (frame_text to)

-- a way that leads to no section: its class says why
abbrev pub marked_attributes : List ℕ → Key → List (List ℕ × List ℕ)
marked_attributes class key = (codes "class", class) ∷ (codes "data-key", key_word key) ∷ []

abbrev pub marked : List ℕ → Key → List ℕ → List Piece
marked class key text = element_pieces (codes "span") (marked_attributes class key) text

-- a way to a frame that the caller finds; the part that is shown may leave it out
abbrev pub found_way : Option (List Id) → Key → Id → List Piece
found_way part key to = if part_shows part to then link to key else marked (codes "elsewhere") key (frame_text to)

-- a way by where it leads; one that isn't offered is nothing
abbrev pub way_pieces : Option (List Id) → Key → Destination → List Piece
way_pieces part key NotOffered = []
way_pieces part key (Found to price) = found_way part key to
way_pieces part key (Closed to) = marked (codes "closed") key (frame_text to)
way_pieces part key (Missing to) = marked (codes "missing") key (frame_text to)
way_pieces part key (Outside page) = marked (codes "outside") key (page_text page)

abbrev pub each_way : List ℕ → BaseView → Option (List Id) → Frame → List Piece
each_way caller base part f = flat_map (λ way. way_pieces part (way_key way) (destination_of caller base f way)) ways

-- the ways that a frame offers, 0 to 9 and then #
unfoldable pub ways_pieces : List ℕ → BaseView → Option (List Id) → Frame → List Piece
ways_pieces caller base part f = around (codes "p") ((codes "class", codes "ways") ∷ []) (each_way caller base part f)
