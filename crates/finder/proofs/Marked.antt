-- Which nodes are marked, and what a way of a listed frame's node does.
use Rattle.std.proofs.Common.{◌≡◌, ◌<◌, ◌≤◌, ◌+◌, ◌*◌, ◌⊎◌, ℕ, Bool, true, false, cond, List, [], ◌∷◌, ◌++◌, Some, None, slice_get, length, get_or, set, refl, sym, ◌∙◌, ap, subst, ⊎_elim, length-append, replicate, arith, Any, Contains}
use Rattle.finder.proofs.Words.{cases_eq, common_steps, get_or-set_at, slice_get_within, get_or-set_other, get_or-replicate, length-replicate, All-nil, All-push, All-contains, Contains-push, Contains-append_left, sum_by-set, count_by-le-length, same_Some, Id, entry_of, Frame, IsAscending, Discovered, Discovery, Graph, Goes, AreMarked, AreNamed, IsDiscoveredSoFar, FindsReached, EntryIsFound, IsFromEntry, IsRank, way_at, way_key, id_at}
use Rattle.std.proofs.lemmas.List.Folds.{sum_by-replicate}
use Rattle.finder.proofs.Listed.{listed, finds_reached, passed, pushed, started}
use Rattle.finder.proofs.Lists.{at_push, at_within, any_at, any_of, at_contains, contains_at, full_at, set_kept, true_within}
use Rattle.finder.proofs.Nodes.{id_there}
use Rattle.finder.proofs.Steps.{one_node, leads_id, leads_to, walk_nodes}

module _ (graph : Graph) (nodes : List ℕ) (listed : List Bool) (are : AreMarked graph nodes listed) where
  pub few : length nodes ≤ graph.table.count
  few = omega (arith, are.count, are.room, count_by-le-length (λ b. b) listed)

  module _ (node : ℕ) (new : get_or listed node false ≡ false) where
    pub not_listed : Contains nodes node → ⊥
    not_listed there = let marked = All-contains (λ g. get_or listed g false ≡ true) nodes node are.marks there in absurd cc

    marked_more : node < graph.table.count → AreMarked graph (nodes ++ node ∷ []) (set listed node true)
    marked_more lt =
        let inside : node < length listed = omega (arith, lt, are.room) in
        record {
          room = grind (arith, common_steps, are.room);
          marked = λ g h. ⊎_elim (λ same. subst (Contains (nodes ++ node ∷ [])) (sym same) (Contains-push nodes node)) (λ other. Contains-append_left nodes (node ∷ []) g (are.marked g (sym (get_or-set_other listed node g true false other) ∙ h))) (cases_eq g node);
          marks = All-push (λ g. get_or (set listed node true) g false ≡ true) nodes node (λ k d lt. set_kept listed node (get_or nodes k d) true false true (are.marks k d lt) (λ there. absurd cc)) (get_or-set_at listed node node true false refl inside);
          count = omega (arith, sum_by-set (λ b. cond b 1 0) listed node true false inside, ap {B = ℕ} (λ b. cond b 1 0) new, are.count, length-append nodes (node ∷ []));
        }

module _ (frames : List Frame) (nodes : List ℕ) (found : List Discovered) (named : AreNamed frames nodes found) where
  -- the frame at an index, and its node
  pub frame_listed : (i node : ℕ) → slice_get nodes i ≡ Some node
      → (d : Discovered) × (slice_get found i ≡ Some d) × (id_at frames node ≡ Some d.id)
  frame_listed i node at = let d = at_within found i (omega (arith, slice_get_within nodes i node at, named.as_many)) in (d.0, d.1, named.each i node d.0 at d.1)

  listed_of : (node : ℕ) (id : Id) → id_at frames node ≡ Some id → Contains nodes node → Any (λ d. d.id ≡ id) found
  listed_of node id at there =
      let i = contains_at nodes node there in
      let d = frame_listed i.0 node i.1 in
      any_of (λ d. d.id ≡ id) found i.0 d.0 d.1 (same_Some d.0.id id (sym d.2 ∙ at))

  node_of : (node : ℕ) (id : Id) → IsAscending frames → id_at frames node ≡ Some id → Any (λ d. d.id ≡ id) found
      → Contains nodes node
  node_of node id up at some =
      let d = any_at (λ d. d.id ≡ id) found some in
      let n = at_within nodes d.0 (omega (arith, slice_get_within found d.0 d.1 d.2, named.as_many)) in
      at_contains nodes d.0 node (n.1 ∙ ap Some (one_node frames n.0 node id up (named.each d.0 n.0 d.1 n.1 d.2 ∙ ap Some d.3) at))

  named_more : (node : ℕ) (d : Discovered) → id_at frames node ≡ Some d.id
      → AreNamed frames (nodes ++ node ∷ []) (found ++ d ∷ [])
  named_more node d is = record {
    each = λ i n e at there. ⊎_elim (λ old. ⊎_elim (λ known. named.each i n e old known) (λ last. absurd (omega (arith, last.0, slice_get_within nodes i n old, named.as_many))) (at_push found d i e there)) (λ last. ⊎_elim (λ known. absurd (omega (arith, last.0, slice_get_within found i e known, named.as_many))) (λ end. ap (id_at frames) (sym last.1) ∙ is ∙ ap (λ (x : Discovered). Some x.id) end.1) (at_push found d i e there)) (at_push nodes node i n at);
    as_many = omega (arith, named.as_many, length-append nodes (node ∷ []), length-append found (d ∷ []));
  }

-- no node
marked_none : (graph : Graph) → AreMarked graph [] (replicate graph.table.count false)
marked_none graph = record {
  room = length-replicate graph.table.count false;
  marked = λ g h. let past = get_or-replicate graph.table.count g false false (omega (arith, true_within (replicate graph.table.count false) g h, length-replicate graph.table.count false)) in absurd cc;
  marks = All-nil _;
  count = sum_by-replicate (λ b. cond b 1 0) graph.table.count false ∙ omega arith;
}

module _ (graph : Graph) (d : Discovery) (frame : Discovered) where
  -- the entry node alone
  pub entry_listed : d.order.keys ≡ graph.start ∷ [] → d.found ≡ frame ∷ []
      → d.listed.items ≡ set (replicate graph.table.count false) graph.start true
      → id_at graph.table.base.now.frames graph.start ≡ Some frame.id → frame.parent ≡ None → frame.key ≡ None
      → IsRank graph.table.groups.now graph.table.base.now frame.id frame.rank → IsFromEntry graph → IsDiscoveredSoFar graph 0 d
  entry_listed order found listed at parent key ranked entry =
      let same : frame.id ≡ entry_of graph.table.base.now = same_Some frame.id (entry_of graph.table.base.now) (sym at ∙ entry.entry_is) in
      record {
        named = rw (order, found) (named_more graph.table.base.now.frames [] [] (record { each = λ i n e at there. absurd cc; as_many = refl }) graph.start frame at);
        marked = rw (order, listed) (marked_more graph [] (replicate graph.table.count false) (marked_none graph) graph.start (get_or-replicate graph.table.count graph.start false false graph.started) graph.started);
        found = rw found (started graph.table.groups.now graph.table.base.now frame same parent key ranked);
      }

module _ (graph : Graph) (index way from : ℕ) (d : Discovery) (small : way < 11) (placed : slice_get d.order.keys index ≡ Some from) (is : IsDiscoveredSoFar graph (index * 11 + way) d) where
  abbrev e : (e : Discovered) × (slice_get d.found index ≡ Some e) × (id_at graph.table.base.now.frames from ≡ Some e.id)
  e = frame_listed graph.table.base.now.frames d.order.keys d.found is.named index from placed

  pub node_inside : from < graph.table.count
  node_inside = omega (arith, is.marked.room, true_within d.listed.items from (All-contains (λ g. get_or d.listed.items g false ≡ true) d.order.keys from is.marked.marks (at_contains d.order.keys index from placed)))

  -- the way leads to no node, or to a marked one
  pub way_passed : ((node : ℕ) → Goes graph from way node → get_or d.listed.items node false ≡ true)
      → IsDiscoveredSoFar graph (index * 11 + way + 1) d
  way_passed old = record {
    named = is.named;
    marked = is.marked;
    found = passed graph.table.groups.now graph.table.base.now index way e.0 d.found small e.1 is.found (λ g l. let to = leads_to graph from way e.0.id g small e.2 l in listed_of graph.table.base.now.frames d.order.keys d.found is.named to.0 g to.1 (is.marked.marked to.0 (old to.0 to.2)));
  }

  -- it leads to a node that isn't marked
  pub way_led : (node : ℕ) (frame : Discovered) (new : Discovery) → Goes graph from way node
      → id_at graph.table.base.now.frames node ≡ Some frame.id → get_or d.listed.items node false ≡ false
      → IsRank graph.table.groups.now graph.table.base.now frame.id frame.rank → frame.parent ≡ Some index → frame.key ≡ Some (way_key (way_at way))
      → new.order.keys ≡ d.order.keys ++ node ∷ [] → new.found ≡ d.found ++ frame ∷ []
      → new.listed.items ≡ set d.listed.items node true → IsDiscoveredSoFar graph (index * 11 + way + 1) new
  way_led node frame new goes named blank ranked parent key order found listed = record {
    named = rw (order, found) (named_more graph.table.base.now.frames d.order.keys d.found is.named node frame named);
    marked = rw (order, listed) (marked_more graph d.order.keys d.listed.items is.marked node blank goes.to);
    found = rw found (pushed graph.table.groups.now graph.table.base.now index way e.0 d.found small e.1 is.found frame parent key (leads_id graph from way node e.0.id frame.id goes e.2 named) (λ some. not_listed graph d.order.keys d.listed.items is.marked node blank (node_of graph.table.base.now.frames d.order.keys d.found is.named node frame.id graph.table.valid.ascending named some)) ranked);
  }

-- all frames are listed that are reached
module _ (graph : Graph) (index : ℕ) (d : Discovery) (is : IsDiscoveredSoFar graph (index * 11) d) (entry : IsFromEntry graph) where
  pub discovered : (length d.order.keys ≤ index) ⊎ (graph.table.count ≤ length d.order.keys)
      → EntryIsFound graph.table.groups.now graph.table.base.now
      → FindsReached graph.table.groups.now graph.table.base.now d.found
  discovered end = finds_reached graph.table.groups.now graph.table.base.now index d.found is.found (⊎_elim (λ past. listed graph.table.groups.now graph.table.base.now index d.found is.found (omega (arith, past, is.named.as_many))) (λ full n g walk.
      let to = walk_nodes graph n graph.start (entry_of graph.table.base.now) g entry.entry_is walk in
      let there = id_there graph.table.base.now.frames to.0 g to.1 in
      let inside = slice_get_within graph.table.base.now.frames to.0 there.0 there.1 in
      listed_of graph.table.base.now.frames d.order.keys d.found is.named to.0 g to.1 (is.marked.marked to.0 (full_at (λ b. b) d.listed.items to.0 true false refl (omega (arith, full, is.marked.count, is.marked.room)) (omega (arith, inside, graph.table.nodes, is.marked.room))))) end)
