-- The frames near a frame.
use Rattle.std.proofs.Common.{◌≡◌, ◌∙◌, ◌⊎◌, inl, inr, ◌<◌, ◌≤◌, ◌+◌, ◌||◌, ℕ, Bool, true, false, List, [], Option, Some, None, get_or, is_none, refl, sym, ap, subst, ⊎_elim, arith}
use Rattle.std.proofs.lemmas.Bool.Decides.{nat_tests}
use Rattle.indexmap.specs.IndexSet.{insert_key}
use Rattle.finder.proofs.Words.{cases_lt, same_Some, slice_get_within, Id, id_eq, id_eq_same, id_eq_refl, BaseView, frame_at, Graph, Comes, IsNodeRank, id_at, has_id, AreNear, is_near, IsWithin, AreWithin, IsNear, WalkIn}
use Rattle.finder.proofs.Inserts.{has_inserted}
use Rattle.finder.proofs.Nodes.{frame_here, id_there}
use Rattle.finder.proofs.Steps.{comes, comes_out, walked_node}

one_of : (a b : Bool) → (a || (b || false)) ≡ true → (a ≡ true) ⊎ (b ≡ true)
one_of true b h = inl refl
one_of false true h = inr refl
one_of false false h = absurd cc

still : (a b : Bool) → a ≡ true → (a || b) ≡ true
still a b h = rw h refl

last : (a b : Bool) → b ≡ true → (a || (b || false)) ≡ true
last true b h = refl
last false b h = rw h refl

module _ (graph : Graph) (ranks : List (Option ℕ)) (most : Option ℕ) (node : ℕ) (ids : List Id) (are : AreNear graph ranks most node ids) where
  -- one of the nodes before, or the next one
  whole_more : (P : Id → Type 0) → ((f : ℕ) (id : Id) → f < node → id_at graph.table.base.now.frames f ≡ Some id → is_near (get_or ranks f None) most ≡ true → P id)
      → ((id : Id) → id_at graph.table.base.now.frames node ≡ Some id → is_near (get_or ranks node None) most ≡ true → P id)
      → (f : ℕ) (id : Id) → f < node + 1 → id_at graph.table.base.now.frames f ≡ Some id → is_near (get_or ranks f None) most ≡ true → P id
  whole_more P old here f id lt at near =
      ⊎_elim (λ less. old f id less at near) (λ past.
      let same : f ≡ node = omega (arith, past, lt) in
      here id (subst (λ g. id_at graph.table.base.now.frames g ≡ Some id) same at) (subst (λ g. is_near (get_or ranks g None) most ≡ true) same near)) (cases_lt f node)

  pub far : is_near (get_or ranks node None) most ≡ false → AreNear graph ranks most (node + 1) ids
  far out = record {
    sound = λ id has. let w = are.sound id has in (w.0, omega (arith, w.1), w.2, w.3);
    whole = whole_more (λ id. has_id ids id ≡ true) are.whole (λ id at near. absurd cc);
  }

  pub nearer : (new : Id) → id_at graph.table.base.now.frames node ≡ Some new → is_near (get_or ranks node None) most ≡ true
      → AreNear graph ranks most (node + 1) (insert_key id_eq ids new)
  nearer new at near = record {
    sound = λ id has. ⊎_elim (λ old. let w = are.sound id old in (w.0, omega (arith, w.1), w.2, w.3)) (λ same. (node, omega arith, at ∙ ap Some (sym (id_eq_same id new same)), near)) (one_of (has_id ids id) (id_eq id new) (sym (has_inserted ids new id) ∙ has));
    whole = whole_more (λ id. has_id (insert_key id_eq ids new) id ≡ true) (λ f id lt there is. has_inserted ids new id ∙ still (has_id ids id) _ (are.whole f id lt there is)) (λ id there is. has_inserted ids new id ∙ last (has_id ids id) (id_eq id new) (subst (λ (x : Id). id_eq id x ≡ true) (same_Some id new (sym there ∙ at)) (id_eq_refl id)));
  }

pub none_near : (graph : Graph) (ranks : List (Option ℕ)) (most : Option ℕ) → AreNear graph ranks most 0 []
none_near graph ranks most = record { sound = λ id has. absurd cc; whole = λ f id lt. absurd (omega (arith, lt)) }

within : (most : Option ℕ) (n : ℕ) → is_near (Some n) most ≡ true → IsWithin most n
within None n h = tt
within (Some most) n h = grind (arith, nat_tests, h)

near_of : (most : Option ℕ) (m n : ℕ) → m ≤ n → IsWithin most n → is_near (Some m) most ≡ true
near_of None m n le w = refl
near_of (Some most) m n le w = grind (arith, nat_tests, le, w)

module _ (graph : Graph) (s : Id) (ranks : List (Option ℕ)) (most : Option ℕ) (ids : List Id) (starts : id_at graph.table.base.now.frames graph.start ≡ Some s) (items : List (Option ℕ)) (same : ranks ≡ items) (ranks_are : (f : ℕ) → IsNodeRank graph f (get_or items f None)) (are : AreNear graph ranks most graph.table.count ids) where
  abbrev Walks : Id → ℕ → Type 0
  Walks id n = WalkIn graph.direction graph.table.groups.now graph.table.base.now s id n

  ranked : (f : ℕ) → IsNodeRank graph f (get_or ranks f None)
  ranked f = subst (λ rs. IsNodeRank graph f (get_or rs f None)) (sym same) (ranks_are f)

  near_walk : (f : ℕ) (id : Id) (rank : Option ℕ) → id_at graph.table.base.now.frames f ≡ Some id → IsNodeRank graph f rank → is_near rank most ≡ true
      → (n : ℕ) × IsWithin most n × Walks id n
  near_walk f id None at is near = absurd cc
  near_walk f id (Some n) at is near = (n, within most n near, comes_out graph s starts f n id at is.walk)

  walk_near : (f n : ℕ) (rank : Option ℕ) → IsNodeRank graph f rank → Comes graph f n → IsWithin most n → is_near rank most ≡ true
  walk_near f n None is walk w = absurd (is n walk)
  walk_near f n (Some m) is walk w = near_of most m n (is.least n walk) w

  are_within : AreWithin graph.direction graph.table.groups.now graph.table.base.now s most ids
  are_within = record {
    sound = λ id has. let w = are.sound id has in near_walk w.0 id (get_or ranks w.0 None) w.2 (ranked w.0) w.3;
    whole = λ id n w walk.
        let f = walked_node graph s starts n id walk in
        let frame = id_there graph.table.base.now.frames f.0 id f.1 in
        are.whole f.0 id (omega (arith, slice_get_within graph.table.base.now.frames f.0 frame.0 frame.1, graph.table.nodes)) f.1 (walk_near f.0 n (get_or ranks f.0 None) (ranked f.0) (comes graph s starts f.0 n id f.1 walk) w);
  }

  pub is_near_to : (caller : List ℕ) (base : BaseView) → graph.table.groups.now ≡ caller → graph.table.base.now ≡ base
      → IsNear caller base graph.direction s most (Some ids)
  is_near_to caller base groups based =
      let f = id_there graph.table.base.now.frames graph.start s starts in
      let there : frame_at graph.table.base.now s ≡ Some f.0 = ap (frame_at graph.table.base.now) (sym f.2) ∙ frame_here graph.table.base.now.frames graph.table.valid.ascending graph.start f.0 f.1 in
      subst (λ b. IsNear caller b graph.direction s most (Some ids)) based (subst (λ g. IsNear g graph.table.base.now graph.direction s most (Some ids)) groups (ap is_none there, are_within))
