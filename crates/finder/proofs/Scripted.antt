-- The scripts of a list of the reached frames lead to them.
use Rattle.std.proofs.Common.{◌≡◌, ◌<◌, ◌+◌, ◌-◌, ℕ, zero, suc, List, [], ◌∷◌, ◌++◌, Option, Some, None, refl, sym, ◌∙◌, ap, append_assoc, arith, ◌≤◌, inl, add-one, slice_get, get_or, subst, ⊎_elim, length, reverse}
use Rattle.finder.proofs.Words.{append-nil, cases_lt, cases_order, same_Some, slice_get_within, slice_get-get_or, reverse_onto, Key, Id, Way, way_key, BaseView, entry_of, Leads, Discovered, parent_of, keys_along, keys_back, parent_by, script, ScriptsLead, Pair, HasPair, PairLeads, IsBefore, HasFirstPair, FindsReached, Walk, IsReached, KeysLead}
use Rattle.std.specs.Prelude.{slice_get}
use Rattle.finder.proofs.Lists.{any_at, any_of, pairs_at}

-- without a parent there is no key
pub back_none : (found : List Discovered) (turns at : ℕ) → parent_of (slice_get found at) ≡ None
    → keys_back found turns at ≡ []
back_none found zero at e = refl
back_none found (suc turns) at e = ap (keys_along (keys_back found turns)) e

-- one turn of going back
pub back_turn : (found : List Discovered) (turn most : ℕ) (all keys more : List Key) (at : ℕ) (p : ℕ × Key)
    → turn < most → all ≡ keys ++ keys_back found (most - turn) at → parent_of (slice_get found at) ≡ Some p
    → more ≡ keys ++ p.1 ∷ [] → all ≡ more ++ keys_back found (most - (turn + 1)) p.0
back_turn found turn most all keys more at p lt is parent more_is =
    let left : most - turn ≡ suc (most - (turn + 1)) = omega (arith, lt) in
    let rest = keys_back found (most - (turn + 1)) p.0 in
    is ∙ ap (λ (t : ℕ). keys ++ keys_back found t at) left ∙ ap (λ (q : Option (ℕ × Key)). keys ++ keys_along (keys_back found (most - (turn + 1))) q) parent ∙ sym (append_assoc keys (p.1 ∷ []) rest) ∙ ap (λ (k : List Key). k ++ rest) (sym more_is)

-- the end of the way
pub back_end : (found : List Discovered) (turns at : ℕ) (all keys : List Key) → all ≡ keys ++ keys_back found turns at
    → parent_of (slice_get found at) ≡ None → keys ≡ all
back_end found turns at all keys is none = sym (is ∙ ap (λ (k : List Key). keys ++ k) (back_none found turns at none) ∙ append-nil keys)

module _ (caller : List ℕ) (base : BaseView) (found : List Discovered) (finds : FindsReached caller base found) where
  -- an id is listed at one index
  pub one_index : (i j : ℕ) (d e : Discovered) → slice_get found i ≡ Some d → slice_get found j ≡ Some e → d.id ≡ e.id
      → i ≡ j
  one_index i j d e at there same = ⊎_elim (λ h. h) (λ apart. ⊎_elim (λ less. absurd (pairs_at (λ x y. x.id ≡ y.id → ⊥) found i j d e finds.once less at there same)) (λ more. absurd (pairs_at (λ x y. x.id ≡ y.id → ⊥) found j i e d finds.once more there at (sym same))) apart) (cases_order i j)

  pub listed_at : (id : Id) → IsReached caller base id
      → (i : ℕ) × (d : Discovered) × (slice_get found i ≡ Some d) × (d.id ≡ id)
  listed_at id r = any_at (λ d. d.id ≡ id) found ((finds.reached id).0 r)

  pub reached_at : (i : ℕ) (d : Discovered) → slice_get found i ≡ Some d → IsReached caller base d.id
  reached_at i d at = (finds.reached d.id).1 (any_of (λ e. e.id ≡ d.id) found i d at refl)

  -- the pair of a frame that isn't the first
  pub pair_at : (i : ℕ) (d : Discovered) (a : ℕ) → slice_get found i ≡ Some d → d.parent ≡ Some a
      → HasFirstPair caller base found d
  pair_at zero d a at parent = let none = (finds.first d at).1 in absurd cc
  pair_at (suc i) d a at parent = finds.pairs i d (rw add-one at)

  module _ (i : ℕ) (d : Discovered) (at : slice_get found i ≡ Some d) (h : HasFirstPair caller base found d) (late : i ≤ h.pair.0) where
    -- then no pair before leads to a frame that isn't before
    low : (j : ℕ) (e : Discovered) (p : Pair) → 0 < i → i ≤ j → slice_get found j ≡ Some e
        → PairLeads caller base found p e.id → i ≤ p.0
    low zero e p one le there l = absurd (omega (arith, one, le))
    low (suc j) e p one le there l =
        let q = finds.pairs j e (rw add-one there) in
        let first : q.pair.0 ≤ p.0 = ⊎_elim (λ less. absurd (q.none_before p l (inl less))) (λ more. more) (cases_lt p.0 q.pair.0) in
        let later : h.pair.0 ≤ q.pair.0 = ⊎_elim (λ less. ⊎_elim (λ before. omega (arith, before)) (λ same. omega (arith, same.0)) (pairs_at (λ x y. (r s : Pair) → HasPair x r → HasPair y s → IsBefore r s) found i (suc j) d e finds.ascend less at there h.pair q.pair h.has q.has)) (λ more.
        let same : d ≡ e = same_Some d e (sym at ∙ ap (slice_get found) (omega (arith, more, le)) ∙ there) in
        let parent : h.pair.0 ≡ q.pair.0 = same_Some h.pair.0 q.pair.0 (sym h.has.parent ∙ ap (λ (x : Discovered). x.parent) same ∙ q.has.parent) in
        omega (arith, parent)) (cases_lt i (suc j)) in
        omega (arith, late, first, later)

    -- so no walk leads from the entry frame to one of those
    stays : (n : ℕ) (g : Id) (r : IsReached caller base g) → 0 < i → Walk caller base (entry_of base) g n
        → (k : ℕ) (e : Discovered) → slice_get found k ≡ Some e → e.id ≡ g → k < i
    stays zero g r one walk k e there same = ⊎_elim (λ less. less) (λ more.
        let zeroth : slice_get found 0 ≡ Some (get_or found 0 e) = slice_get-get_or found 0 e (omega (arith, slice_get_within found k e there)) in
        let id = (finds.first (get_or found 0 e) zeroth).0 in
        let here : 0 ≡ k = one_index 0 k (get_or found 0 e) e zeroth there (id ∙ walk ∙ sym same) in
        absurd (omega (arith, here, more, one))) (cases_lt k i)
    stays (suc n) g r one walk k e there same =
        let before : IsReached caller base walk.0 = record { steps = n; entry = r.entry; walk = walk.2 } in
        let h_at = listed_at walk.0 before in
        let less = stays n walk.0 before one walk.2 h_at.0 h_at.1 h_at.2 h_at.3 in
        ⊎_elim (λ lt. lt) (λ more.
        let leads : PairLeads caller base found (h_at.0, walk.1) e.id = record { from = h_at.1; placed = h_at.2; leads = subst (λ x. Leads caller base x walk.1 e.id) (sym h_at.3) (subst (Leads caller base walk.0 walk.1) (sym same) walk.3) } in
        absurd (omega (arith, less, low k e (h_at.0, walk.1) one more there leads))) (cases_lt k i)

  -- the parent is before
  pub earlier : (i : ℕ) (d : Discovered) (p : Pair) → slice_get found i ≡ Some d → HasPair d p → p.0 < i
  earlier i d p at has = ⊎_elim (λ lt. lt) (λ more.
      let h = pair_at i d p.0 at has.parent in
      let same : p.0 ≡ h.pair.0 = same_Some p.0 h.pair.0 (sym has.parent ∙ h.has.parent) in
      let r = reached_at i d at in
      absurd (omega (arith, stays i d at h (omega (arith, more, same)) r.steps d.id r (not_first i d p at has) r.walk i d at refl))) (cases_lt p.0 i)
    where
      not_first : (i : ℕ) (d : Discovered) (p : Pair) → slice_get found i ≡ Some d → HasPair d p → 0 < i
      not_first zero d p at has = let none = (finds.first d at).1 in let some = has.parent in absurd cc
      not_first (suc i) d p at has = omega arith

-- one key more
lead_more : (caller : List ℕ) (base : BaseView) (keys : List Key) (f h g : Id) (key : Key) (way : Way)
    → key ≡ way_key way → Leads caller base h way g → KeysLead caller base f keys h
    → KeysLead caller base f (keys ++ key ∷ []) g
lead_more caller base [] f h g key way is leads same = (g, way, is, subst (λ x. Leads caller base x way g) (sym same) leads, refl)
lead_more caller base (k ∷ keys) f h g key way is leads lead = (lead.0, lead.1, lead.2, lead.3, lead_more caller base keys lead.0 h g key way is leads lead.4)

module _ (caller : List ℕ) (base : BaseView) (found : List Discovered) (finds : FindsReached caller base found) where
  -- a parent is before, and its way leads on
  record IsChild (i : ℕ) (p : ℕ × Key) : Type 0 where
    d : Discovered
    placed : slice_get found i ≡ Some d
    way : Way
    key : p.1 ≡ way_key way
    leads : PairLeads caller base found (p.0, way) d.id
    before : p.0 < i

  child_at : (i : ℕ) (p : ℕ × Key) → parent_of (slice_get found i) ≡ Some p → IsChild i p
  child_at i p e = by i (slice_get found i) refl e where
    by : (i : ℕ) (o : Option Discovered) → slice_get found i ≡ o → parent_of o ≡ Some p → IsChild i p
    by i None is e = absurd cc
    by zero (Some d) is e = let none = ap (λ a. parent_by a d.key) (finds.first d is).1 in absurd cc
    by (suc i) (Some d) is e =
        let h = finds.pairs i d (rw add-one is) in
        let same : (h.pair.0, way_key h.pair.1) ≡ p = same_Some (h.pair.0, way_key h.pair.1) p (sym (ap (λ a. parent_by a d.key) h.has.parent ∙ ap (parent_by (Some h.pair.0)) h.has.key) ∙ e) in
        subst (IsChild (suc i)) same (record { d = d; placed = is; way = h.pair.1; key = refl; leads = h.leads; before = earlier caller base found finds (suc i) d h.pair is h.has })

  -- each turn more changes nothing, if there are enough
  steady : (n i : ℕ) → i < n → keys_back found n i ≡ keys_back found (suc n) i
  steady zero i lt = absurd (omega (arith, lt))
  steady (suc n) i lt = by (λ p is. steady n p.0 (omega (arith, (child_at i p is).before, lt))) (parent_of (slice_get found i)) refl where
    by : ((p : ℕ × Key) → parent_of (slice_get found i) ≡ Some p → keys_back found n p.0 ≡ keys_back found (suc n) p.0)
        → (o : Option (ℕ × Key)) → parent_of (slice_get found i) ≡ o
        → keys_along (keys_back found n) o ≡ keys_along (keys_back found (suc n)) o
    by rest None is = refl
    by rest (Some p) is = ap (λ (keys : List Key). p.1 ∷ keys) (rest p is)

  one_more : (i : ℕ) (p : ℕ × Key) → parent_of (slice_get found i) ≡ Some p
      → script found i ≡ script found p.0 ++ p.1 ∷ []
  one_more i p is =
      let child = child_at i p is in
      let last = length found - 1 in
      let full : length found ≡ suc last = omega (arith, slice_get_within found i child.d child.placed) in
      let rest = steady last p.0 (omega (arith, child.before, full, slice_get_within found i child.d child.placed)) ∙ ap (λ n. keys_back found n p.0) (sym full) in
      ap reverse (ap (λ n. keys_back found n i) full ∙ ap (keys_along (keys_back found last)) is ∙ ap (λ (keys : List Key). p.1 ∷ keys) rest) ∙ reverse_onto (keys_back found (length found) p.0) p.1 []

  none_back : (i : ℕ) → parent_of (slice_get found i) ≡ None → script found i ≡ []
  none_back i none = ap reverse (back_none found (length found) i none)

  orphan : (i : ℕ) (d : Discovered) → slice_get found i ≡ Some d → parent_of (slice_get found i) ≡ None → i ≡ 0
  orphan zero d at none = refl
  orphan (suc i) d at none =
      let h = (finds.pairs i d (rw add-one at)).has in
      let some : parent_of (slice_get found (suc i)) ≡ Some (_, _) = ap parent_of at ∙ ap (λ a. parent_by a d.key) h.parent ∙ ap (parent_by (Some _)) h.key in
      absurd cc

  -- in this many turns
  leads_within : (n i : ℕ) (d : Discovered) → i ≤ n → slice_get found i ≡ Some d → (o : Option (ℕ × Key))
      → parent_of (slice_get found i) ≡ o → KeysLead caller base (entry_of base) (script found i) d.id
  leads_within n i d le at None none =
      let first : i ≡ 0 = orphan i d at none in
      let id = (finds.first d (ap (slice_get found) (sym first) ∙ at)).0 in
      rw (none_back i none) (sym id)
  leads_within zero i d le at (Some p) is = absurd (omega (arith, (child_at i p is).before, le))
  leads_within (suc n) i d le at (Some p) is =
      let child = child_at i p is in
      let same : child.d ≡ d = same_Some child.d d (sym child.placed ∙ at) in
      let before = leads_within n p.0 child.leads.from (omega (arith, child.before, le)) child.leads.placed (parent_of (slice_get found p.0)) refl in
      rw (one_more i p is) (subst (λ (e : Discovered). KeysLead caller base (entry_of base) (script found p.0 ++ p.1 ∷ []) e.id) same (lead_more caller base (script found p.0) (entry_of base) child.leads.from.id child.d.id p.1 child.way child.key child.leads.leads before))

  pub scripts_lead : ScriptsLead caller base found
  scripts_lead = record {
    leads = λ i d at. leads_within i i d (omega arith) at (parent_of (slice_get found i)) refl;
    first = λ i d at none. let alone = ap parent_of at ∙ ap (λ a. parent_by a d.key) none in (orphan i d at alone, none_back i alone);
    extends = λ i p is. ((child_at i p is).before, one_more i p is);
  }
