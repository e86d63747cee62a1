-- Ids of nodes, and the ways between them.
use Rattle.std.proofs.Common.{◌≡◌, ℕ, List, Option, Some, None, option_map, length, slice_get, refl, sym, ◌∙◌, ap, ⊎_elim, ◌<◌, zero, suc, subst, arith, get_or}
use Rattle.finder.proofs.Words.{cases_lt, same_Some, slice_get_within, slice_get_read, Id, id_eq, Way, place_at, way_at, way_place, Frame, IsAscending, BaseView, entry_of, destination_of, destination_by, destination, aim_of, Leads, going, frame_id, first_found, id_at, Direction, From, To, Graph, Goes, NodeWalk, Comes, turned, IsNodeRank, AreRanks, IsFromEntry, Walk, WalkIn, IsRank}
use Rattle.frame_records.specs.declared.ways.Destination.TheVariants as destination_is
use Rattle.finder.proofs.Nodes.{same_node, frame_here, id_there}
use Rattle.finder.proofs.Leading.{node_to, by_node, leads_on, known_way}
use Rattle.finder.proofs.Lists.{mapped}

-- an id has one node
pub one_node : (frames : List Frame) (i j : ℕ) (id : Id) → IsAscending frames → id_at frames i ≡ Some id
    → id_at frames j ≡ Some id → i ≡ j
one_node frames i j id up at there =
    let f = id_there frames i id at in
    let g = id_there frames j id there in
    same_node frames up i j f.0 g.0 f.1 g.1 (f.2 ∙ sym g.2)

module _ (graph : Graph) where
  abbrev caller : List ℕ
  caller = graph.table.groups.now

  abbrev base : BaseView
  base = graph.table.base.now

  -- the id of a node
  abbrev IsOf : ℕ → Id → Type 0
  IsOf node id = id_at base.frames node ≡ Some id

  pub leads_id : (f way g : ℕ) (a b : Id) → Goes graph f way g → IsOf f a → IsOf g b → Leads caller base a (way_at way) b
  leads_id f way g a b goes at there =
      let l = leads_on graph f way g goes in
      let from : l.from.id ≡ a = same_Some l.from.id a (sym (ap (option_map (λ (h : Frame). h.id)) l.placed) ∙ at) in
      let to : l.to.id ≡ b = same_Some l.to.id b (sym (ap (option_map (λ (h : Frame). h.id)) l.there) ∙ there) in
      record {
        price = l.to.price;
        found = ap (λ id. destination caller base id (way_at way)) (sym from) ∙ ap (destination_by caller base (way_at way)) (frame_here base.frames graph.table.valid.ascending f l.from l.placed) ∙ l.found ∙ ap (λ id. destination_is.Found id l.to.price) to;
      }

  leads_node : (f : ℕ) (way : Way) (a b : Id) → IsOf f a → Leads caller base a way b
      → (node : ℕ) × IsOf node b × Goes graph f (way_place way) node
  leads_node f way a b at l =
      let from = id_there base.frames f a at in
      let known = known_way caller base a way b l in
      let inside : f < graph.table.count = omega (arith, slice_get_within base.frames f from.0 from.1, graph.table.nodes) in
      let found : destination_of caller base from.0 (way_at (way_place way)) ≡ destination_is.Found b l.price = ap (destination_of caller base from.0) known.1 ∙ sym (ap (λ id. destination caller base id way) (sym from.2) ∙ ap (destination_by caller base way) (frame_here base.frames graph.table.valid.ascending f from.0 from.1)) ∙ l.found in
      let is = by_node graph f (way_place way) from.0 inside known.0 from.1 in
      ⊎_elim (λ within.
      let to = mapped (λ (h : Frame). destination_is.Found h.id h.price) (slice_get base.frames (node_to graph f (way_place way))) _ (is.found within) in
      (_, ap (option_map (λ (h : Frame). h.id)) to.1 ∙ ap Some (by to.0.id b to.0.price l.price (to.2 ∙ found)), record { is_way = known.0; from = inside; to = omega (arith, within, graph.table.nodes); target = refl })) (λ past.
      let lost = is.lost past in
      absurd (lost.1 (lost.0 ∙ ap aim_of found))) (cases_lt (node_to graph f (way_place way)) (length base.frames))
    where
      by : (c d : Id) (p q : ℕ) → destination_is.Found c p ≡ destination_is.Found d q → c ≡ d
      by c d p q e = cc

  pub leads_to : (f way : ℕ) (a g : Id) → way < 11 → IsOf f a → Leads caller base a (way_at way) g
      → (node : ℕ) × IsOf node g × Goes graph f way node
  leads_to f way a g small at l = let to = leads_node f (way_at way) a g at l in (to.0, to.1, subst (λ w. Goes graph f w to.0) (place_at way small) to.2)

  -- a frame from which a way leads has a node
  first_node : (a : Id) (way : Way) (b : Id) → Leads caller base a way b → (f : ℕ) × IsOf f a
  first_node a way b l =
      let is = going caller base a way (destination_is.Found b l.price) l.found (λ same. absurd cc) in
      let at = first_found (λ f. id_eq f.id a) base.frames is.frame is.there in
      (at.0, ap (option_map (λ (f : Frame). f.id)) (slice_get_read base.frames (length base.frames) at.0 is.frame refl at.1.within (sym (at.1.at is.frame))) ∙ ap Some (frame_id base.frames a is.frame is.there))

  walk_ids : (n f g : ℕ) (a b : Id) → IsOf f a → IsOf g b → NodeWalk graph f g n → Walk caller base a b n
  walk_ids zero f g a b at there same = same_Some a b (sym at ∙ ap (id_at base.frames) same ∙ there)
  walk_ids (suc n) f g a b at there walk =
      let l = leads_on graph walk.0 walk.1 g walk.3 in
      let h : IsOf walk.0 l.from.id = ap (option_map (λ (k : Frame). k.id)) l.placed in
      (l.from.id, way_at walk.1, walk_ids n f walk.0 a l.from.id at h walk.2, leads_id walk.0 walk.1 g l.from.id b walk.3 h there)

  pub walk_nodes : (n f : ℕ) (a b : Id) → IsOf f a → Walk caller base a b n → (g : ℕ) × IsOf g b × NodeWalk graph f g n
  walk_nodes zero f a b at same = (f, at ∙ ap Some same, refl)
  walk_nodes (suc n) f a b at walk =
      let before = walk_nodes n f a walk.0 at walk.2 in
      let to = leads_node before.0 walk.1 walk.0 b before.1 walk.3 in
      (to.0, to.1, (before.0, way_place walk.1, before.2, to.2))

  -- a walk between two frames is one between their nodes
  between : (n f g : ℕ) (a b : Id) → IsOf f a → IsOf g b → Walk caller base a b n → NodeWalk graph f g n
  between n f g a b at there walk =
      let to = walk_nodes n f a b at walk in
      subst (λ h. NodeWalk graph f h n) (one_node base.frames to.0 g b graph.table.valid.ascending to.1 there) to.2

  -- a frame from which a walk leads to one of the base has a node
  walker : (n g : ℕ) (a b : Id) → IsOf g b → Walk caller base a b n → (f : ℕ) × IsOf f a
  walker zero g a b there same = (g, there ∙ ap Some (sym same))
  walker (suc zero) g a b there walk = first_node a walk.1 b (subst (λ h. Leads caller base h walk.1 b) (sym walk.2) walk.3)
  walker (suc (suc n)) g a b there walk =
      let h = first_node walk.0 walk.1 b walk.3 in
      walker (suc n) h.0 a walk.0 h.1 walk.2

  module _ (s : Id) (starts : IsOf graph.start s) where
    -- if the search gets to a node, a walk leads to its frame
    pub comes_out : (f n : ℕ) (a : Id) → IsOf f a → Comes graph f n → WalkIn graph.direction caller base s a n
    comes_out f n a at = by graph.direction where
      by : (d : Direction) → NodeWalk graph (turned d graph.start f).0 (turned d graph.start f).1 n → WalkIn d caller base s a n
      by From walk = walk_ids n graph.start f s a starts at walk
      by To walk = walk_ids n f graph.start a s at starts walk

    pub comes : (f n : ℕ) (a : Id) → IsOf f a → WalkIn graph.direction caller base s a n → Comes graph f n
    comes f n a at = by graph.direction where
      by : (d : Direction) → WalkIn d caller base s a n → NodeWalk graph (turned d graph.start f).0 (turned d graph.start f).1 n
      by From walk = between n graph.start f s a starts at walk
      by To walk = between n f graph.start a s at starts walk

    -- what walks lead to has a node
    pub walked_node : (n : ℕ) (a : Id) → WalkIn graph.direction caller base s a n → (f : ℕ) × IsOf f a
    walked_node n a = by graph.direction where
      by : (d : Direction) → WalkIn d caller base s a n → (f : ℕ) × IsOf f a
      by From walk = let to = walk_nodes n graph.start s a starts walk in (to.0, to.1)
      by To walk = walker n graph.start a s starts walk

  module _ (entry : IsFromEntry graph) where
    rank_id : (f : ℕ) (a : Id) (rank : Option ℕ) → IsOf f a → IsNodeRank graph f rank → IsRank caller base a rank
    rank_id f a None at none = λ m walk. none m (comes (entry_of base) entry.entry_is f m a at (subst (λ d. WalkIn d caller base (entry_of base) a m) (sym entry.back) walk))
    rank_id f a (Some n) at is = record {
      walk = subst (λ d. WalkIn d caller base (entry_of base) a n) entry.back (comes_out (entry_of base) entry.entry_is f n a at is.walk);
      least = λ m walk. is.least m (comes (entry_of base) entry.entry_is f m a at (subst (λ d. WalkIn d caller base (entry_of base) a m) (sym entry.back) walk));
    }

    pub rank_ids : (ranks : List (Option ℕ)) → ((f : ℕ) → IsNodeRank graph f (get_or ranks f None)) → AreRanks graph ranks
    rank_ids ranks are f a at = rank_id f a (get_or ranks f None) at (are f)
