-- Each way that leads somewhere is one of a frame, and leads to a frame.
use Rattle.std.proofs.Common.{◌≡◌, ◌<◌, ◌+◌, ◌*◌, ℕ, List, Some, option_map, slice_get, get_or, sym, ◌∙◌, ap, arith}
use Rattle.finder.proofs.Words.{Id, way_at, way_place, Way, Frame, BaseView, going, offered_place, Leads, destination_of, Graph, Goes}
use Rattle.frame_records.specs.declared.ways.Destination.TheVariants as destination
use Rattle.finder.specs.declared.aim.Aim.TheVariants.{NotOffered}
use Rattle.finder.specs.Loops.WayTargets.{IsTargetBy}
use Rattle.finder.proofs.Lists.{at_within, mapped}

-- a way that leads is one of the eleven
pub known_way : (caller : List ℕ) (base : BaseView) (f : Id) (way : Way) (g : Id) → Leads caller base f way g
    → (way_place way < 11) × (way_at (way_place way) ≡ way)
known_way caller base f way g l = let is = going caller base f way (destination.Found g l.price) l.found (λ same. absurd cc) in offered_place is.frame way is.to is.offered

module _ (graph : Graph) where
  -- the node to which a way of a node leads
  abbrev pub node_to : ℕ → ℕ → ℕ
  node_to f way = get_or graph.table.targets.nodes.items (f * 11 + way) 0

  pub by_node : (f way : ℕ) (frame : Frame) → f < graph.table.count → way < 11
      → slice_get graph.table.base.now.frames f ≡ Some frame
      → IsTargetBy graph.table.groups.now graph.table.base.now frame (way_at way) (node_to f way) (get_or graph.table.targets.aims.items (f * 11 + way) NotOffered)
  by_node f way frame inside small at = graph.table.whole.right f way frame (omega (arith, inside, small)) small at

  -- the frames of a way that leads somewhere
  pub record LeadsOn (f way g : ℕ) : Type 0 where
    pub from : Frame
    pub placed : slice_get graph.table.base.now.frames f ≡ Some from
    pub to : Frame
    pub there : slice_get graph.table.base.now.frames g ≡ Some to
    pub found : destination_of graph.table.groups.now graph.table.base.now from (way_at way) ≡ destination.Found to.id to.price

  pub leads_on : (f way g : ℕ) → Goes graph f way g → LeadsOn f way g
  leads_on f way g goes =
      let from = at_within graph.table.base.now.frames f (omega (arith, goes.from, graph.table.nodes)) in
      let is = (by_node f way from.0 goes.from goes.is_way from.1).found (omega (arith, goes.target, goes.to, graph.table.nodes)) in
      let to = mapped (λ (h : Frame). destination.Found h.id h.price) (slice_get graph.table.base.now.frames g) _ (ap (λ p. option_map (λ (h : Frame). destination.Found h.id h.price) (slice_get graph.table.base.now.frames p)) (sym goes.target) ∙ is) in
      record { from = from.0; placed = from.1; to = to.0; there = to.1; found = sym to.2 }
