-- One more way of a listed frame is tried.
use Rattle.std.proofs.Common.{◌≡◌, ◌<◌, ◌+◌, ◌*◌, inl, inr, ℕ, zero, suc, List, [], ◌∷◌, ◌++◌, Some, None, slice_get, length, ◌≤◌, refl, sym, ◌∙◌, ap, subst, ⊎_elim, arith, Any}
use Rattle.finder.proofs.Words.{cases_lt, cases_order, All-nil, All-push, all_pairs_push, Any-push, slice_get_within, same_Some, slice_get-get_or, Id, place_at, way_at, way_place, way_key, Way, BaseView, entry_of, Leads, Discovered, number, IsDiscovery, Pair, HasPair, PairLeads, IsBefore, HasFirstPair, FindsReached, Walk, IsRank, EntryIsFound}
use Rattle.page_ids.specs.declared.way.Way.TheVariants.{Route, Next}
use Rattle.frame_records.specs.declared.ways.Destination.TheVariants.{Found}
use Rattle.finder.proofs.Leading.{known_way}
use Rattle.finder.proofs.Lists.{at_push, push_at, all_at, any_at, any_of, any_grown}

-- the order of pairs is that of their numbers
pub number_before : (p q : Pair) → way_place q.1 < 11 → number p < number q → IsBefore p q
number_before p q small lt = ⊎_elim (λ same. inr (same, omega (arith, same, lt))) (λ apart. ⊎_elim (λ less. inl less) (λ more. absurd (omega (arith, more, lt, small))) apart) (cases_order p.0 q.0)

pub before_number : (p q : Pair) → way_place p.1 < 11 → IsBefore p q → number p < number q
before_number p q small before = ⊎_elim (λ less. omega (arith, less, small)) (λ same. omega (arith, same.0, same.1)) before

row_of : (p q : Pair) → IsBefore p q → p.0 < q.0 + 1
row_of p q before = ⊎_elim (λ less. omega (arith, less)) (λ same. omega (arith, same.0)) before

-- a key has one way
pub same_way : (v w : Way) → way_key v ≡ way_key w → v ≡ w
same_way (Route d) (Route e) h = cc
same_way (Route d) Next h = absurd cc
same_way Next (Route e) h = absurd cc
same_way Next Next h = refl

module _ (caller : List ℕ) (base : BaseView) where
  -- a way leads to one frame
  pub one_end : (f : Id) (w : Way) (g h : Id) → Leads caller base f w g → Leads caller base f w h → g ≡ h
  one_end f w g h l m = by g h l.price m.price (sym l.found ∙ m.found) where
    by : (g h : Id) (p q : ℕ) → Found g p ≡ Found h q → g ≡ h
    by g h p q e = cc

  pub way_known : (found : List Discovered) (p : Pair) (g : Id) → PairLeads caller base found p g
      → (way_place p.1 < 11) × (way_at (way_place p.1) ≡ p.1)
  way_known found p g l = known_way caller base l.from.id p.1 g l.leads

  module _ (found : List Discovered) (e : Discovered) (p : Pair) (g : Id) where
    grown : PairLeads caller base found p g → PairLeads caller base (found ++ e ∷ []) p g
    grown l = record { from = l.from; placed = push_at found e p.0 l.from l.placed; leads = l.leads }

    ungrown : p.0 < length found → PairLeads caller base (found ++ e ∷ []) p g → PairLeads caller base found p g
    ungrown lt l = record {
      from = l.from;
      placed = ⊎_elim (λ old. old) (λ end. absurd (omega (arith, lt, end.0))) (at_push found e p.0 l.from l.placed);
      leads = l.leads;
    }

  -- what holds of each frame that the pairs so far lead to, and of the one that the next pair leads to
  closed_more : (found : List Discovered) (P : Id → Type 0) (index way : ℕ) (from : Discovered) → way < 11
      → slice_get found index ≡ Some from
      → ((p : Pair) (g : Id) → PairLeads caller base found p g → number p < index * 11 + way → P g)
      → ((g : Id) → Leads caller base from.id (way_at way) g → P g) → (p : Pair) (g : Id)
      → PairLeads caller base found p g → number p < index * 11 + way + 1 → P g
  closed_more found P index way from small placed old here p g l lt =
      ⊎_elim (λ less. old p g l less) (λ more.
      let known = way_known found p g l in
      let row : p.0 ≡ index = omega (arith, more, lt, known.0, small) in
      let way_is : p.1 ≡ way_at way = sym known.1 ∙ ap way_at (omega (arith, more, lt, row)) in
      let same : l.from ≡ from = same_Some l.from from (sym l.placed ∙ ap (slice_get found) row ∙ placed) in
      here g (subst (λ w. Leads caller base from.id w g) way_is (subst (λ (d : Discovered). Leads caller base d.id p.1 g) same l.leads))) (cases_lt (number p) (index * 11 + way))

  module _ (index way : ℕ) (from : Discovered) (found : List Discovered) (small : way < 11) (placed : slice_get found index ≡ Some from) (is : IsDiscovery caller base (index * 11 + way) found) where
    -- the way leads to no frame, or to a listed one
    pub passed : ((g : Id) → Leads caller base from.id (way_at way) g → Any (λ d. d.id ≡ g) found)
        → IsDiscovery caller base (index * 11 + way + 1) found
    passed here = record {
      listing = is.listing;
      before = λ k d lt p h. omega (arith, is.before k d lt p h);
      closed = closed_more found (λ g. Any (λ d. d.id ≡ g) found) index way from small placed is.closed here;
    }

    -- it leads to a frame that isn't listed, and that goes last
    module _ (e : Discovered) (parent : e.parent ≡ Some index) (key : e.key ≡ Some (way_key (way_at way))) (leads : Leads caller base from.id (way_at way) e.id) (new : Any (λ d. d.id ≡ e.id) found → ⊥) (ranked : IsRank caller base e.id e.rank) where
      abbrev more : List Discovered
      more = found ++ e ∷ []

      abbrev pair : Pair
      pair = (index, way_at way)

      inside : index < length found
      inside = slice_get_within found index from placed

      -- its one pair
      own : (p : Pair) → HasPair e p → (p.0 ≡ index) × (way_place p.1 ≡ way)
      own p h = (sym (same_Some index p.0 (sym parent ∙ h.parent)), ap way_place (sym (same_way (way_at way) p.1 (same_Some (way_key (way_at way)) (way_key p.1) (sym key ∙ h.key)))) ∙ place_at way small)

      leads_on : PairLeads caller base more pair e.id
      leads_on = record { from = from; placed = push_at found e index from placed; leads = leads }

      kept : (d : Discovered) → HasFirstPair caller base found d → HasFirstPair caller base more d
      kept d h = record {
        pair = h.pair;
        has = h.has;
        leads = grown found e h.pair d.id h.leads;
        none_before = λ other l before. h.none_before other (ungrown found e other d.id (omega (arith, row_of other h.pair before, slice_get_within found h.pair.0 h.leads.from h.leads.placed)) l) before;
      }

      first_pair : HasFirstPair caller base more e
      first_pair = record {
        pair = pair;
        has = record { parent = parent; key = key };
        leads = leads_on;
        none_before = λ other l before. new (is.closed other e.id (ungrown found e other e.id (omega (arith, row_of other pair before, inside)) l) (omega (arith, before_number other pair (way_known more other e.id l).0 before, place_at way small)));
      }

      pub pushed : IsDiscovery caller base (index * 11 + way + 1) more
      pushed = record {
        listing = record {
          first = λ d at. ⊎_elim (is.listing.first d) (λ end. absurd (omega (arith, end.0, inside))) (at_push found e 0 d at);
          entry = any_grown (λ d. d.id ≡ entry_of base) found e is.listing.entry;
          walked = All-push (λ d. (n : ℕ) × Walk caller base (entry_of base) d.id n) found e is.listing.walked (let walk = all_at (λ d. (n : ℕ) × Walk caller base (entry_of base) d.id n) found index from is.listing.walked placed in (suc walk.0, (from.id, way_at way, walk.1, leads)));
          ranks = All-push (λ d. IsRank caller base d.id d.rank) found e is.listing.ranks ranked;
          once = all_pairs_push (λ d b. d.id ≡ b.id → ⊥) found e is.listing.once (λ k d lt same. new (any_of (λ d. d.id ≡ e.id) found k _ (slice_get-get_or found k d lt) same));
          pairs = λ i d at. ⊎_elim (λ old. kept d (is.listing.pairs i d old)) (λ end. subst (HasFirstPair caller base more) end.1 first_pair) (at_push found e (i + 1) d at);
          ascend = all_pairs_push (λ d b. (p q : Pair) → HasPair d p → HasPair b q → IsBefore p q) found e is.listing.ascend (λ k d lt p q hp hq. let last = own q hq in number_before p q (omega (arith, last.1, small)) (omega (arith, is.before k d lt p hp, last.0, last.1)));
        };
        before = All-push (λ d. (p : Pair) → HasPair d p → number p < index * 11 + way + 1) found e (λ k d lt p h. omega (arith, is.before k d lt p h)) (λ p h. let last = own p h in omega (arith, last.0, last.1));
        closed = closed_more more (λ g. Any (λ d. d.id ≡ g) more) index way from small (push_at found e index from placed) (λ p g l lt. any_grown (λ d. d.id ≡ g) found e (is.closed p g (ungrown found e p g (omega (arith, lt, small, inside)) l) lt)) (λ g l. Any-push (λ d. d.id ≡ g) found e (one_end from.id (way_at way) e.id g leads l));
      }

  -- the entry frame alone
  pub started : (e : Discovered) → e.id ≡ entry_of base → e.parent ≡ None → e.key ≡ None → IsRank caller base e.id e.rank
      → IsDiscovery caller base 0 (e ∷ [])
  started e same parent key ranked = record {
    listing = record {
      first = λ d at. subst (λ (x : Discovered). (x.id ≡ entry_of base) × (x.parent ≡ None) × (x.key ≡ None)) (same_Some e d at) (same, parent, key);
      entry = Any-push (λ d. d.id ≡ entry_of base) [] e same;
      walked = All-push (λ d. (n : ℕ) × Walk caller base (entry_of base) d.id n) [] e (All-nil _) (0, sym same);
      ranks = All-push (λ d. IsRank caller base d.id d.rank) [] e (All-nil _) ranked;
      once = λ i j d lt end. absurd (omega (arith, lt, end));
      pairs = λ i d at. absurd (omega (arith, slice_get_within (e ∷ []) (i + 1) d at));
      ascend = λ i j d lt end. absurd (omega (arith, lt, end));
    };
    before = All-push (λ d. (p : Pair) → HasPair d p → number p < 0) [] e (All-nil _) (λ p h. let none = sym parent ∙ h.parent in absurd cc);
    closed = λ p g l lt. absurd (omega (arith, lt));
  }

  module _ (index : ℕ) (found : List Discovered) (is : IsDiscovery caller base (index * 11) found) where
    -- if the ways of all are tried, no way leads to another
    pub listed : length found ≤ index → (n : ℕ) (g : Id) → Walk caller base (entry_of base) g n
        → Any (λ d. d.id ≡ g) found
    listed all zero g same = subst (λ x. Any (λ d. d.id ≡ x) found) same is.listing.entry
    listed all (suc n) g walk =
        let there = any_at (λ d. d.id ≡ walk.0) found (listed all n walk.0 walk.2) in
        let pair : Pair = (there.0, walk.1) in
        let l : PairLeads caller base found pair g = record { from = there.1; placed = there.2; leads = subst (λ x. Leads caller base x walk.1 g) (sym there.3) walk.3 } in
        is.closed pair g l (omega (arith, slice_get_within found there.0 there.1 there.2, all, (way_known found pair g l).0))

    -- all are listed that are reached
    pub finds_reached : ((n : ℕ) (g : Id) → Walk caller base (entry_of base) g n → Any (λ d. d.id ≡ g) found)
        → EntryIsFound caller base → FindsReached caller base found
    finds_reached all entry = record {
      first = is.listing.first;
      reached = λ id. (
        (λ r. all r.steps id r.walk),
        (λ some.
            let there = any_at (λ d. d.id ≡ id) found some in
            let walk = all_at (λ d. (n : ℕ) × Walk caller base (entry_of base) d.id n) found there.0 there.1 is.listing.walked there.2 in
            record { steps = walk.0; entry = entry; walk = subst (λ x. Walk caller base (entry_of base) x walk.0) there.3 walk.1 }),
      );
      once = is.listing.once;
      pairs = is.listing.pairs;
      ascend = is.listing.ascend;
    }
