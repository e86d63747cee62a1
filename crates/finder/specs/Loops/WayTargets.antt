-- The results of the ways of a base's frames. A node is a frame's position in the base.
use Rattle.std.specs.Prelude.{◌≡◌, ◌≢◌, ◌<◌, ◌≤◌, ◌+◌, ◌*◌, ◌++◌, ◌∷◌, [], ℕ, List, Option, Some, None, option_map, length, get_or, set, slice_get}
use Rattle.page_ids.specs.Ids.{Id}
use Rattle.page_ids.specs.declared.way.Way.{Way}
use Rattle.page_ids.specs.Ways.{way_at}
use Rattle.frame_records.specs.declared.frame.Frame.{Frame}
use Rattle.frame_records.specs.Bases.{BaseView}
use Rattle.frame_records.specs.Ways.{destination_of}
use Rattle.frame_records.specs.declared.ways.Destination.{Destination}
use Rattle.frame_records.specs.declared.ways.Destination.TheVariants as destination
use Rattle.finder.specs.declared.aim.Aim.{Aim}
use Rattle.finder.specs.declared.aim.Aim.TheVariants as aim
use Rattle.finder.specs.declared.table.Targets.{Targets}
use Rattle.finder.specs.declared.target.WayTarget.{WayTarget}
use Rattle.finder.specs.declared.target.WayTarget.TheVariants.{NotOffered, Found, Closed, Missing, Outside}

-- a destination without its frame
abbrev pub aim_of : Destination → Aim
aim_of destination.NotOffered = aim.NotOffered
aim_of (destination.Found to price) = aim.Found
aim_of (destination.Closed to) = aim.Closed
aim_of (destination.Missing to) = aim.Missing
aim_of (destination.Outside page) = aim.Outside

-- the destination of a way that seeks a frame and finds none, by its aim
abbrev pub lost_by : Aim → Id → Destination
lost_by aim.NotOffered to = destination.NotOffered
lost_by aim.Found to = destination.NotOffered
lost_by aim.Closed to = destination.Closed to
lost_by aim.Missing to = destination.Missing to
lost_by aim.Outside to = destination.Outside to.page

-- the same of a way that may seek a frame
abbrev pub lost_to : Aim → Option Id → Destination
lost_to aim None = destination.NotOffered
lost_to aim (Some to) = lost_by aim to

-- a target without its node
abbrev pub aim_at : WayTarget → Aim
aim_at NotOffered = aim.NotOffered
aim_at (Found node) = aim.Found
aim_at Closed = aim.Closed
aim_at Missing = aim.Missing
aim_at Outside = aim.Outside

-- the node of the frame that is found
abbrev pub node_of : WayTarget → Option ℕ
node_of NotOffered = None
node_of (Found node) = Some node
node_of Closed = None
node_of Missing = None
node_of Outside = None

-- a way finds the frame of a node
abbrev pub IsFoundAt : List ℕ → BaseView → Frame → Way → ℕ → Type 0
IsFoundAt caller base f way node = option_map (λ to. destination.Found to.id to.price) (slice_get base.frames node) ≡ Some (destination_of caller base f way)

-- the result of a way of a frame
pub record IsTarget (caller : List ℕ) (base : BaseView) (f : Frame) (way : Way) (target : WayTarget) : Type 0 where
  pub aim : aim_at target ≡ aim_of (destination_of caller base f way)
  pub found : (node : ℕ) → node_of target ≡ Some node → IsFoundAt caller base f way node

-- the same, reported by the node of the frame that is found, which is past the last if none is, and then by the aim
pub record IsTargetBy (caller : List ℕ) (base : BaseView) (f : Frame) (way : Way) (node : ℕ) (other : Aim) : Type 0 where
  pub found : node < length base.frames → IsFoundAt caller base f way node
  pub lost : length base.frames ≤ node → (other ≡ aim_of (destination_of caller base f way)) × (other ≢ aim.Found)

-- the results of the first `done` ways, eleven for each frame
pub record AreTargets (caller : List ℕ) (base : BaseView) (done : ℕ) (targets : Targets) : Type 0 where
  pub room : length targets.nodes.items ≡ done
  pub slots : length targets.aims.items ≡ length base.frames * 11
  pub right : (i way : ℕ) (f : Frame) → i * 11 + way < done → way < 11 → slice_get base.frames i ≡ Some f
      → IsTargetBy caller base f (way_at way) (get_or targets.nodes.items (i * 11 + way) 0) (get_or targets.aims.items (i * 11 + way) aim.NotOffered)

-- the target of one more way is added
pub record IsAdded (old new : Targets) (target : WayTarget) : Type 0 where
  pub node : ℕ
  pub nodes : new.nodes.items ≡ old.nodes.items ++ node ∷ []
  pub found : (at : ℕ) → node_of target ≡ Some at → (node ≡ at) × (new.aims.items ≡ old.aims.items)
  pub lost : node_of target ≡ None → (node ≡ 65535) × (new.aims.items ≡ set old.aims.items (length old.nodes.items) (aim_at target))
