-- The text of a map.
use Rattle.std.specs.Prelude.{◌≡◌, ◌↔◌, ℕ, List, ◌++◌, codes, Option, None, true, Some, Contains, Vec}
use Rattle.std.specs.declared.alloc.Global.{Global}
use Rattle.std.specs.List.{flat_map, IsDistinct}
use Rattle.page_ids.specs.Ids.{Id, id_eq}
use Rattle.frame_records.specs.declared.frame.Frame.{Frame}
use Rattle.frame_records.specs.Bases.{BaseView, frame_at}
use Rattle.finder.specs.Finds.{IsReached, has_id}
use Rattle.finder.specs.Parts.{IsViewPart}
use Rattle.finder.specs.declared.view.View.{View}
use Rattle.base_map.specs.Edges.{edge_lines_of, lost_lines, MapView, frames_shown, targets_of, keys_to}
use Rattle.base_map.specs.Nodes.{cluster_lines}
use Rattle.page_ids.specs.declared.way.Way.{Way}
use Rattle.page_ids.specs.Ways.{way_key}
use Rattle.frame_records.specs.declared.base.Sought.TheVariants as found
use Rattle.frame_records.specs.Seek.{seek}
use Rattle.frame_records.specs.Ways.{sought, Leads}

-- exactly the frames that a caller reaches
pub record AreReached (caller : List ℕ) (base : BaseView) (ids : List Id) : Type 0 where
  pub each : (id : Id) → IsReached caller base id ↔ (has_id ids id ≡ true)

-- what comes before all nodes
abbrev pub map_head : List ℕ
map_head = codes "digraph {\n  rankdir=LR\n  newrank=true\n  node [shape=box]\n"

-- the head, the nodes of frames by pages, the nodes of what the base lacks, the edges, and the end
abbrev pub lines_of : MapView → List Frame → List ℕ
lines_of m frames = map_head ++ cluster_lines m None frames ++ lost_lines m frames ++ flat_map (edge_lines_of m) frames ++ codes "}\n"

-- the lines of the frames that are shown
abbrev pub map_lines : MapView → List ℕ
map_lines m = lines_of m (frames_shown m m.base.frames)

-- a map of the part of a base, for a caller
pub record IsMap (base : BaseView) (caller : List ℕ) (part : Option (List Id)) (text : List ℕ) : Type 0 where
  pub reached : List Id
  pub are : AreReached caller base reached
  pub text_is : text ≡ map_lines (record { base = base; caller = caller; reached = reached; part = part })

-- What the edges of a map are.

-- a frame has one edge for each id that one of its ways seeks, with exactly the keys that seek it
pub record AreEdges (f : Frame) : Type 0 where
  pub once : IsDistinct id_eq (targets_of f)
  pub ends : (to : Id) → (has_id (targets_of f) to ≡ true) ↔ ((way : Way) × (sought f way ≡ Some to))
  pub keys : (to : Id) (way : Way) → Contains (keys_to f to) (way_key way) ↔ (sought f way ≡ Some to)

-- to a frame that is found, these are the keys of the ways that lead there
abbrev pub KeysLeadOn : Frame → Type 0
KeysLeadOn f = (caller : List ℕ) (base : BaseView) (to : Id) (way : Way) (price : ℕ) → frame_at base f.id ≡ Some f
    → seek caller base to ≡ found.Found price → Contains (keys_to f to) (way_key way) ↔ Leads caller base f.id way to

abbrev pub EdgesAreWays : Type 0
EdgesAreWays = (f : Frame) → AreEdges f × KeysLeadOn f

-- The map of a view.

-- the map of a view's part
pub record IsViewMap (caller : List ℕ) (base : BaseView) (view : View) (text : List ℕ) : Type 0 where
  pub part : Option (List Id)
  pub is_part : IsViewPart caller base view (Some part)
  pub map : IsMap base caller part text

-- that map, or none
abbrev pub IsViewed : List ℕ → BaseView → View → Option (Vec ℕ Global) → Type 0
IsViewed caller base view None = IsViewPart caller base view None
IsViewed caller base view (Some text) = IsViewMap caller base view text.items
