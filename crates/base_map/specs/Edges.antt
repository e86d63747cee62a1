-- The edges of a map.
use Rattle.std.specs.Prelude.{ℕ, Bool, true, ◌&&◌, ◌||◌, List, Option, Some, None, filter, is_none, [], map, if◌then◌else◌, ◌++◌, codes, false, ◌∷◌}
use Rattle.std.specs.Option.{option_eq}
use Rattle.std.specs.List.{filter_map, flat_map}
use Rattle.page_ids.specs.Ids.{Id, id_eq, frame_text, page_text}
use Rattle.frame_records.specs.declared.frame.Frame.{Frame}
use Rattle.frame_records.specs.Bases.{BaseView, frame_at, lists_outside}
use Rattle.indexmap.specs.IndexSet.{insert_all}
use Rattle.page_ids.specs.declared.key.Key.{Key}
use Rattle.page_ids.specs.declared.way.Way.{Way}
use Rattle.page_ids.specs.Ways.{way_key, ways}
use Rattle.frame_records.specs.Seek.{entry_of}
use Rattle.frame_records.specs.Ways.{sought}
use Rattle.finder.specs.Finds.{has_id}
use Rattle.finder.specs.Parts.{part_shows}
use Rattle.page_ids.specs.Keys.{key_word}

-- What a map is drawn of.

-- a base, the caller's groups, the frames that the caller reaches, and the part that is shown
pub record MapView : Type 0 where
  pub base : BaseView
  pub caller : List ℕ
  pub reached : List Id
  pub part : Option (List Id)

-- the base lacks the frame of an id
abbrev pub is_lacked : BaseView → Id → Bool
is_lacked base id = is_none (frame_at base id)

-- the map has a node for an id: it shows the frame, or the base lacks it
abbrev pub has_node : MapView → Id → Bool
has_node m id = part_shows m.part id || is_lacked m.base id

-- the frames that are shown
abbrev pub frames_shown : MapView → List Frame → List Frame
frames_shown m frames = filter (λ f. part_shows m.part f.id) frames

-- What the ways of a frame seek.

-- what they seek, each once, in the order in which it is first sought
abbrev pub targets_of : Frame → List Id
targets_of f = insert_all id_eq [] (filter_map (sought f) ways)

-- a way seeks an id
abbrev pub seeks : Frame → Id → Way → Bool
seeks f to way = option_eq id_eq (sought f way) (Some to)

-- the keys of the ways that seek an id
abbrev pub keys_to : Frame → Id → List Key
keys_to f to = map way_key (filter (seeks f to) ways)

-- What ways seek and the base lacks.

-- the name of a node: an outside page's number, or an id
abbrev pub node_name : BaseView → Id → List ℕ
node_name base id = if lists_outside base id.page then page_text id.page else frame_text id

-- the entry frame has two lines round it and is red, an outside page has a shape of its own, what is missing is red
abbrev pub lost_mark : BaseView → Id → List ℕ
lost_mark base id =
    if id_eq id (entry_of base) then codes "peripheries=2 color=red"
    else if lists_outside base id.page then codes "shape=ellipse"
    else codes "color=red"

abbrev pub lost_line : BaseView → Id → List ℕ
lost_line base id = codes "  \"" ++ node_name base id ++ codes "\" [" ++ lost_mark base id ++ codes "]\n"

-- what the ways of a frame seek and the base lacks
abbrev pub lost_of : BaseView → Frame → List Id
lost_of base f = filter (is_lacked base) (targets_of f)

-- the entry frame, if it is shown and the base lacks it: a part near a page shows none that the base lacks
abbrev pub lost_entry : MapView → List Id
lost_entry m = if part_shows m.part (entry_of m.base) && is_lacked m.base (entry_of m.base) then entry_of m.base ∷ [] else []

-- that, and what the ways of frames seek and the base lacks, each once, in the order in which it is first sought
abbrev pub lost : MapView → List Frame → List Id
lost m frames = insert_all id_eq (lost_entry m) (flat_map (lost_of m.base) frames)

abbrev pub lost_lines : MapView → List Frame → List ℕ
lost_lines m frames = flat_map (lost_line m.base) (lost m frames)

-- An edge for each pair of a frame and what its ways seek.

-- keys with a space before each, but not before the first of all
abbrev pub spaced_keys : Bool → List Key → List ℕ
spaced_keys first [] = []
spaced_keys true (k ∷ ks) = key_word k ++ spaced_keys false ks
spaced_keys false (k ∷ ks) = codes " " ++ key_word k ++ spaced_keys false ks

-- an edge from a frame to what its ways seek
abbrev pub edge_line : MapView → Frame → Id → List ℕ
edge_line m f to =
    codes "  \"" ++ frame_text f.id ++ codes "\" -> \"" ++ node_name m.base to ++ codes "\" [label=\"" ++ spaced_keys true (keys_to f to) ++ codes "\"]\n"

-- the edges to those that have nodes
abbrev pub lines_to : MapView → Frame → List Id → List ℕ
lines_to m f targets = flat_map (edge_line m f) (filter (has_node m) targets)

-- a frame's edges, in the order in which its ways first seek their ends
abbrev pub edge_lines_of : MapView → Frame → List ℕ
edge_lines_of m f = lines_to m f (targets_of f)
