-- The search from a node.
use Rattle.std.proofs.Common.{◌≡◌, ◌<◌, ◌≤◌, ◌+◌, ℕ, zero, suc, List, [], ◌∷◌, ◌++◌, Option, Some, None, is_some, cond, false, true, slice_get, length, get_or, set, Contains, refl, sym, ◌∙◌, ap, subst, ⊎_elim, ◌⊎◌, add-one, length-append, arith, ◌*◌, All}
use Rattle.finder.proofs.Words.{AllWithin, cases_eq, cases_lt, common_steps, get_or-set_at, get_or-set_other, get_or_append_left, get_or_default, All-push, All-contains, Contains-push, Contains-append_left, AllWithin-more, all_pairs_push, sum_by-set, count_by-le-length, slice_get_within, same_Some, get_or_from_slice_get, SmallVec, Direction, From, To, Graph, Goes, NodeWalk, LeadsTo, IsStep, Comes, turned, IsNodeRank, AreNeighbours, HasNeighbour, IsListOf, HasRank, IsSearch, IsClosed}
use Rattle.finder.specs.declared.ranks.Ranked.{Ranked}
use Rattle.finder.proofs.Lists.{at_push, push_at, all_at, at_within, full_at, set_kept}

-- a walk with one more way in front
step_back : (graph : Graph) (f way h g n : ℕ) → Goes graph f way h → NodeWalk graph h g n → NodeWalk graph f g (suc n)
step_back graph f way h g zero goes walk = (f, way, refl, subst (Goes graph f way) walk goes)
step_back graph f way h g (suc n) goes walk = (walk.0, walk.1, step_back graph f way h walk.0 n goes walk.2, walk.3)

-- a step more
goes_on : (graph : Graph) (h f n : ℕ) → Comes graph h n → IsStep graph h f → Comes graph f (suc n)
goes_on graph h f n = by graph.direction where
  by : (d : Direction) → NodeWalk graph (turned d graph.start h).0 (turned d graph.start h).1 n → LeadsTo graph (turned d h f).0 (turned d h f).1
      → NodeWalk graph (turned d graph.start f).0 (turned d graph.start f).1 (suc n)
  by From walk leads = (h, leads.0, walk, leads.1)
  by To walk leads = step_back graph f leads.0 h graph.start n leads.1 walk

step_inside : (graph : Graph) (h f : ℕ) → IsStep graph h f → f < graph.table.count
step_inside graph h f = by graph.direction where
  by : (d : Direction) → LeadsTo graph (turned d h f).0 (turned d h f).1 → f < graph.table.count
  by From leads = leads.1.to
  by To leads = leads.1.from

-- a step is to a neighbour
neighbour_of : (graph : Graph) (lists : List (SmallVec ℕ)) (h f : ℕ) → AreNeighbours graph (graph.table.count * 11) lists → IsStep graph h f
    → HasNeighbour lists h f
neighbour_of graph lists h f are = by graph.direction are.whole where
  by : (d : Direction) → ((f way g : ℕ) → f * 11 + way < graph.table.count * 11 → Goes graph f way g → HasNeighbour lists (turned d f g).0 (turned d f g).1)
      → LeadsTo graph (turned d h f).0 (turned d h f).1 → HasNeighbour lists h f
  by From whole leads = whole h leads.0 f (omega (arith, leads.1.from, leads.1.is_way)) leads.1
  by To whole leads = whole f leads.0 h (omega (arith, leads.1.from, leads.1.is_way)) leads.1

pub none_of : {X : Type 0} (o : Option X) → false ≡ is_some o → o ≡ None
none_of None h = refl
none_of (Some x) h = absurd cc

some_of : {X : Type 0} (o : Option X) → true ≡ is_some o → (x : X) × (o ≡ Some x)
some_of None h = absurd cc
some_of (Some x) h = (x, refl)

pub few : (graph : Graph) (done : ℕ) (queue : List Ranked) (ranks : List (Option ℕ)) → IsSearch graph done queue ranks
    → length queue ≤ graph.table.count
few graph done queue ranks is = omega (arith, is.ranked.count, is.ranked.nodes, count_by-le-length is_some ranks)

pub kept : (ranks : List (Option ℕ)) (f r g n : ℕ) → get_or ranks f None ≡ None → get_or ranks g None ≡ Some n
    → get_or (set ranks f (Some r)) g None ≡ Some n
kept ranks f r g n none some = set_kept ranks f g (Some r) None (Some n) some (λ e. absurd cc)

module _ (graph : Graph) (done : ℕ) (queue : List Ranked) (ranks : List (Option ℕ)) (to : Ranked) (f : ℕ) (is : IsSearch graph done queue ranks) (waits : slice_get queue done ≡ Some to) (leads : IsStep graph to.node f) where
  -- it has a rank already
  pub is_near : true ≡ is_some (get_or ranks f None) → HasRank ranks f (to.rank + 1)
  is_near h =
      let some = some_of (get_or ranks f None) h in
      (some.0, some.1, All-contains (λ d. d.rank ≤ to.rank + 1) queue (record { node = f; rank = some.0 }) (is.near to waits) (is.ranked.queued f some.0 some.1))

  pub fits : to.rank + 1 ≤ graph.table.count
  fits = omega (arith, is.ranked.low done to waits, slice_get_within queue done to waits, few graph done queue ranks is)

  pub inside : f < length ranks
  inside = omega (arith, step_inside graph to.node f leads, is.ranked.nodes)

  pub marked : get_or ranks f None ≡ None
      → IsSearch graph done (queue ++ record { node = f; rank = to.rank + 1 } ∷ []) (set ranks f (Some (to.rank + 1)))
  marked new =
      let e : Ranked = record { node = f; rank = to.rank + 1 } in
      let walk : Comes graph to.node to.rank = all_at (λ d. Comes graph d.node d.rank) queue done to is.ranked.walks waits in
      record {
        ranked = record {
          nodes = grind (arith, common_steps);
          starts = kept ranks f (to.rank + 1) graph.start 0 new is.ranked.starts;
          queued = λ g n h.
              ⊎_elim (λ same.
              let here : Some n ≡ Some (to.rank + 1) = sym h ∙ get_or-set_at ranks f g (Some (to.rank + 1)) None same inside in
              let node : f ≡ g = sym same in
              let rank : to.rank + 1 ≡ n = cc in
              let is_e : e ≡ record { node = g; rank = n } = cc in
              subst (Contains (queue ++ e ∷ [])) is_e (Contains-push queue e)) (λ other. Contains-append_left queue (e ∷ []) (record { node = g; rank = n }) (is.ranked.queued g n (sym (get_or-set_other ranks f g (Some (to.rank + 1)) None other) ∙ h))) (cases_eq g f);
          count = omega (arith, sum_by-set (λ o. cond (is_some o) 1 0) ranks f (Some (to.rank + 1)) None inside, ap {B = ℕ} (λ o. cond (is_some o) 1 0) new, is.ranked.count, length-append queue (e ∷ []));
          inside = All-push (λ d. d.node < graph.table.count) queue e is.ranked.inside (omega (arith, inside, is.ranked.nodes));
          walks = All-push (λ d. Comes graph d.node d.rank) queue e is.ranked.walks (rw add-one (goes_on graph to.node f to.rank walk leads));
          ascend = all_pairs_push (λ d b. d.rank ≤ b.rank) queue e is.ranked.ascend (is.near to waits);
          low = λ i b at. ⊎_elim (λ old. is.ranked.low i b old) (λ end. let rank : to.rank + 1 ≡ b.rank = ap (λ (d : Ranked). d.rank) end.1 in omega (arith, end.0, rank, is.ranked.low done to waits, slice_get_within queue done to waits)) (at_push queue e i b at);
        };
        near = λ b at.
            let to_is : to ≡ b = same_Some to b (sym (push_at queue e done to waits) ∙ at) in
            All-push (λ d. d.rank ≤ b.rank + 1) queue e (is.near b (waits ∙ ap Some to_is)) (subst (λ (d : Ranked). to.rank + 1 ≤ d.rank + 1) to_is (omega arith));
        closed = λ k d low lt g leads_g.
            let old = get_or_append_left queue (e ∷ []) d k (omega (arith, lt, slice_get_within queue done to waits)) in
            let had = is.closed k d low lt g (subst (λ (b : Ranked). IsStep graph b.node g) old leads_g) in
            (had.0, kept ranks f (to.rank + 1) g had.0 new had.1, subst (λ (b : Ranked). had.0 ≤ b.rank + 1) (sym old) had.2);
      }

pub finished : (graph : Graph) (done : ℕ) (queue : List Ranked) (ranks : List (Option ℕ)) (to : Ranked)
    → IsSearch graph done queue ranks → slice_get queue done ≡ Some to → IsClosed graph ranks to
    → IsSearch graph (done + 1) queue ranks
finished graph done queue ranks to is waits closed = record {
  ranked = is.ranked;
  near = λ e next k d lt.
      let here = get_or_from_slice_get queue done to d waits in
      let there = get_or_from_slice_get queue (done + 1) e d next in
      let up = is.ranked.ascend done (done + 1) d (omega arith) (slice_get_within queue (done + 1) e next) in
      omega (arith, is.near to waits k d lt, ap (λ (x : Ranked). x.rank) here, ap (λ (x : Ranked). x.rank) there, up);
  closed = AllWithin-more (IsClosed graph ranks) queue 0 done is.closed (λ d. subst (IsClosed graph ranks) (sym (get_or_from_slice_get queue done to d waits)) closed);
}

pub node_inside : (graph : Graph) (done : ℕ) (queue : List Ranked) (ranks : List (Option ℕ)) (to : Ranked)
    → IsSearch graph done queue ranks → slice_get queue done ≡ Some to → to.node < graph.table.count
node_inside graph done queue ranks to is waits = subst (λ (d : Ranked). d.node < graph.table.count) (get_or_from_slice_get queue done to to waits) (is.ranked.inside done to (slice_get_within queue done to waits))

-- if each neighbour has a rank, all that steps lead to have
pub all_ranked : (graph : Graph) (lists : List (SmallVec ℕ)) (gs : List ℕ) (ranks : List (Option ℕ)) (to : Ranked)
    → AreNeighbours graph (graph.table.count * 11) lists → IsListOf lists to.node gs
    → ((k : ℕ) → k < length gs → HasRank ranks (get_or gs k 0) (to.rank + 1)) → IsClosed graph ranks to
all_ranked graph lists gs ranks to are is passed f step =
    let d : SmallVec ℕ = record { items = []; capacity = 0 } in
    let there : Contains gs f = subst (λ xs. Contains xs f) (is d) (neighbour_of graph lists to.node f are step d) in
    subst (λ g. HasRank ranks g (to.rank + 1)) (get_or_default gs there.0 0 f there.1 ∙ there.2) (passed there.0 there.1)

-- and a step leads to each neighbour
pub steps_lead : (graph : Graph) (lists : List (SmallVec ℕ)) (gs : List ℕ) (h k : ℕ)
    → AreNeighbours graph (graph.table.count * 11) lists → IsListOf lists h gs → h < graph.table.count
    → k < length gs → IsStep graph h (get_or gs k 0)
steps_lead graph lists gs h k are is inside lt =
    let d : SmallVec ℕ = record { items = []; capacity = 0 } in
    let all : All (IsStep graph h) gs = subst (All (IsStep graph h)) (is d) (are.lead h d inside) in
    all k 0 lt

module _ (graph : Graph) (done : ℕ) (queue : List Ranked) (ranks : List (Option ℕ)) (is : IsSearch graph done queue ranks) where
  -- if each node has a rank, nothing is left to do
  all_closed : graph.table.count ≤ length queue → AllWithin (IsClosed graph ranks) queue 0 (length queue)
  all_closed full k e low lt f leads =
      ⊎_elim (λ before. is.closed k e low before f leads) (λ from.
      let some = some_of (get_or ranks f None) (sym (full_at is_some ranks f (Some 0) None refl (omega (arith, full, is.ranked.count, is.ranked.nodes)) (omega (arith, step_inside graph (get_or queue k e).node f leads, is.ranked.nodes)))) in
      let first = at_within queue done (omega (arith, from, lt)) in
      let near = All-contains (λ d. d.rank ≤ first.0.rank + 1) queue (record { node = f; rank = some.0 }) (is.near first.0 first.1) (is.ranked.queued f some.0 some.1) in
      let first_is : get_or queue done e ≡ first.0 = get_or_from_slice_get queue done first.0 e first.1 in
      let up : (get_or queue done e).rank ≤ (get_or queue k e).rank = ⊎_elim (λ less. is.ranked.ascend done k e less lt) (λ last. let same : done ≡ k = omega (arith, last, from) in subst (λ j. (get_or queue done e).rank ≤ (get_or queue j e).rank) same (omega arith)) (cases_lt done k) in
      (some.0, some.1, omega (arith, near, up, ap (λ (d : Ranked). d.rank) first_is))) (cases_lt k done)

  closed_at : (e : Ranked) → Contains queue e → (length queue ≤ done) ⊎ (graph.table.count ≤ length queue) → IsClosed graph ranks e
  closed_at e there end = subst (IsClosed graph ranks) there.2 (⊎_elim (λ past. is.closed there.0 e (omega arith) (omega (arith, there.1, past))) (λ full. all_closed full there.0 e (omega arith) there.1) end)

module _ (graph : Graph) (done : ℕ) (queue : List Ranked) (ranks : List (Option ℕ)) (is : IsSearch graph done queue ranks) (end : (length queue ≤ done) ⊎ (graph.table.count ≤ length queue)) where
  step : (h f m : ℕ) → IsStep graph h f → HasRank ranks h m → HasRank ranks f (m + 1)
  step h f m leads has =
      let next = closed_at graph done queue ranks is (record { node = h; rank = has.0 }) (is.ranked.queued h has.0 has.1) end f leads in
      (next.0, next.1, omega (arith, next.2, has.2))

  module _ (next : (h f m : ℕ) → LeadsTo graph h f → HasRank ranks h m → HasRank ranks f (m + 1)) where
    onward : (m f : ℕ) → NodeWalk graph graph.start f m → HasRank ranks f m
    onward zero f walk = (0, ap (λ g. get_or ranks g None) (sym walk) ∙ is.ranked.starts, omega arith)
    onward (suc m) f walk = let has = next walk.0 f m (walk.1, walk.3) (onward m walk.0 walk.2) in (has.0, has.1, omega (arith, has.2))

  module _ (next : (h f m : ℕ) → LeadsTo graph f h → HasRank ranks h m → HasRank ranks f (m + 1)) where
    back : (m f h r : ℕ) → NodeWalk graph f h m → HasRank ranks h r → HasRank ranks f (r + m)
    back zero f h r walk has = (has.0, ap (λ g. get_or ranks g None) walk ∙ has.1, omega (arith, has.2))
    back (suc m) f h r walk has =
        let before = back m f walk.0 (r + 1) walk.2 (next h walk.0 r (walk.1, walk.3) has) in
        (before.0, before.1, omega (arith, before.2))

  at_most : (f m : ℕ) → Comes graph f m → HasRank ranks f m
  at_most f m = by graph.direction step where
    by : (d : Direction) → ((h f m : ℕ) → LeadsTo graph (turned d h f).0 (turned d h f).1 → HasRank ranks h m → HasRank ranks f (m + 1))
        → NodeWalk graph (turned d graph.start f).0 (turned d graph.start f).1 m → HasRank ranks f m
    by From next walk = onward next m f walk
    by To next walk = let has = back next m f graph.start 0 walk (0, is.ranked.starts, omega arith) in (has.0, has.1, omega (arith, has.2))

  is_rank : (f : ℕ) (rank : Option ℕ) → get_or ranks f None ≡ rank → IsNodeRank graph f rank
  is_rank f None none = λ m walk. let has = at_most f m walk in let some = has.1 in absurd cc
  is_rank f (Some n) some = record {
    walk = All-contains (λ e. Comes graph e.node e.rank) queue (record { node = f; rank = n }) is.ranked.walks (is.ranked.queued f n some);
    least = λ m walk. let has = at_most f m walk in omega (arith, has.2, same_Some n has.0 (sym some ∙ has.1));
  }

  pub ranks_are : (f : ℕ) → IsNodeRank graph f (get_or ranks f None)
  ranks_are f = is_rank f (get_or ranks f None) refl
