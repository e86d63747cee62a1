-- Two lists of the reached frames with their ranks are one.
use Rattle.std.proofs.Common.{◌≡◌, ◌<◌, ◌≤◌, ℕ, zero, suc, add-one, List, [], ◌∷◌, Option, Some, None, slice_get, refl, sym, ◌∙◌, ap, subst, ⊎_elim, arith}
use Rattle.finder.proofs.Words.{cases_lt, same_Some, slice_get_within, Id, Key, way_at, way_key, BaseView, Leads, Discovered, number, Pair, HasPair, PairLeads, IsBefore, HasFirstPair, FindsReached, RanksAreLeast, IsRank}
use Rattle.finder.specs.Finds.{FoundIsOne}
use Rattle.finder.proofs.Lists.{all_at, pairs_at, none_past}
use Rattle.finder.proofs.Listed.{number_before, before_number, one_end, way_known}
use Rattle.finder.proofs.Scripted.{one_index, listed_at, reached_at, earlier}

abbrev frame_of : Id → Option ℕ → Option ℕ → Option Key → Discovered
frame_of id rank parent key = record { id = id; rank = rank; parent = parent; key = key }

same_fields : (i j : Id) (r s p q : Option ℕ) (k l : Option Key) → i ≡ j → r ≡ s → p ≡ q → k ≡ l
    → frame_of i r p k ≡ frame_of j s q l
same_fields i j r s p q k l ei er ep ek = cc

-- the two lists are alike before an index
abbrev IsAlike : List Discovered → List Discovered → ℕ → Type 0
IsAlike a b n = (k : ℕ) → k < n → slice_get a k ≡ slice_get b k

module _ (caller : List ℕ) (base : BaseView) where
  one_rank : (id : Id) (r s : Option ℕ) → IsRank caller base id r → IsRank caller base id s → r ≡ s
  one_rank id None None ir is = refl
  one_rank id None (Some m) ir is = absurd (ir m is.walk)
  one_rank id (Some n) None ir is = absurd (is n ir.walk)
  one_rank id (Some n) (Some m) ir is = ap Some (omega (arith, ir.least m is.walk, is.least n ir.walk))

  module _ (a b : List Discovered) (fa : FindsReached caller base a) (fb : FindsReached caller base b) where
    -- a frame of the one is in the other, and not before
    is_there : (n : ℕ) (d : Discovered) → IsAlike a b n → slice_get a n ≡ Some d
        → (i : ℕ) × (e : Discovered) × (slice_get b i ≡ Some e) × (e.id ≡ d.id) × (n ≤ i)
    is_there n d alike at =
        let t = listed_at caller base b fb d.id (reached_at caller base a fa n d at) in
        (t.0, t.1, t.2, t.3, ⊎_elim (λ lt. let here = one_index caller base a fa t.0 n t.1 d (alike t.0 lt ∙ t.2) at t.3 in absurd (omega (arith, lt, here))) (λ more. more) (cases_lt t.0 n))

    past : (n : ℕ) (d : Discovered) → IsAlike a b n → slice_get a n ≡ Some d → slice_get b n ≡ None → ⊥
    past n d alike at none = let t = is_there n d alike at in absurd (omega (arith, none_past b n none, slice_get_within b t.0 t.1 t.2, t.4))

    module _ (n : ℕ) (d e : Discovered) (alike : IsAlike a b (suc n)) (at : slice_get a (suc n) ≡ Some d) (there : slice_get b (suc n) ≡ Some e) (h : HasFirstPair caller base a d) (k : HasFirstPair caller base b e) where
      from_there : slice_get b h.pair.0 ≡ Some h.leads.from
      from_there = sym (alike h.pair.0 (earlier caller base a fa (suc n) d h.pair at h.has)) ∙ h.leads.placed

      -- in the second list the first one's pair leads to the same frame
      low : (x : Discovered) (m : HasFirstPair caller base b x) → x.id ≡ d.id → number m.pair ≤ number h.pair
      low x m same =
          let l : PairLeads caller base b h.pair x.id = record { from = h.leads.from; placed = from_there; leads = subst (Leads caller base h.leads.from.id h.pair.1) (sym same) h.leads.leads } in
          ⊎_elim (λ less. absurd (m.none_before h.pair l (number_before h.pair m.pair (way_known caller base b m.pair x.id m.leads).0 less))) (λ more. more) (cases_lt (number h.pair) (number m.pair))

      -- so the second one's pair is no later
      no_later : number k.pair ≤ number h.pair
      no_later = let t = is_there (suc n) d alike at in by t.0 t.1 t.2 t.3 t.4 where
        by : (i : ℕ) (x : Discovered) → slice_get b i ≡ Some x → x.id ≡ d.id → suc n ≤ i → number k.pair ≤ number h.pair
        by zero x is same le = absurd (omega (arith, le))
        by (suc i) x is same le =
            let m = fb.pairs i x (rw add-one is) in
            ⊎_elim (λ later.
            let before = pairs_at (λ x y. (p q : Pair) → HasPair x p → HasPair y q → IsBefore p q) b (suc n) (suc i) e x fb.ascend later there is k.pair m.pair k.has m.has in
            omega (arith, low x m same, before_number k.pair m.pair (way_known caller base b k.pair e.id k.leads).0 before)) (λ end.
            let e_is : x ≡ e = same_Some x e (sym is ∙ ap (slice_get b) (omega (arith, end, le)) ∙ there) in
            low e k (ap (λ (y : Discovered). y.id) (sym e_is) ∙ same)) (cases_lt (suc n) (suc i))

  module _ (a b : List Discovered) (fa : FindsReached caller base a) (fb : FindsReached caller base b) (ra : RanksAreLeast caller base a) (rb : RanksAreLeast caller base b) where
    back : (n : ℕ) → IsAlike a b n → IsAlike b a n
    back n alike k lt = sym (alike k lt)

    same_frame : (i : ℕ) (d e : Discovered) → slice_get a i ≡ Some d → slice_get b i ≡ Some e → d.id ≡ e.id
        → d.parent ≡ e.parent → d.key ≡ e.key → d ≡ e
    same_frame i d e at there id parent key =
        same_fields d.id e.id d.rank e.rank d.parent e.parent d.key e.key id (one_rank d.id d.rank e.rank (all_at (λ x. IsRank caller base x.id x.rank) a i d ra at) (subst (λ x. IsRank caller base x e.rank) (sym id) (all_at (λ x. IsRank caller base x.id x.rank) b i e rb there))) parent key

    same_next : (n : ℕ) (d e : Discovered) → IsAlike a b n → slice_get a n ≡ Some d → slice_get b n ≡ Some e → d ≡ e
    same_next zero d e alike at there = let x = fa.first d at in let y = fb.first e there in same_frame 0 d e at there (x.0 ∙ sym y.0) (x.1 ∙ sym y.1) (x.2 ∙ sym y.2)
    same_next (suc n) d e alike at there =
        let h = fa.pairs n d (rw add-one at) in
        let k = fb.pairs n e (rw add-one there) in
        let hw = way_known caller base a h.pair d.id h.leads in
        let kw = way_known caller base b k.pair e.id k.leads in
        let same : number h.pair ≡ number k.pair = omega (arith, no_later a b fa fb n d e alike at there h k, no_later b a fb fa n e d (back (suc n) alike) there at k h) in
        let row : h.pair.0 ≡ k.pair.0 = omega (arith, same, hw.0, kw.0) in
        let way : h.pair.1 ≡ k.pair.1 = sym hw.1 ∙ ap way_at (omega (arith, same, row)) ∙ kw.1 in
        let from : h.leads.from ≡ k.leads.from = same_Some h.leads.from k.leads.from (sym (from_there a b fa fb n d e alike at there h k) ∙ ap (slice_get b) row ∙ k.leads.placed) in
        let l = subst (λ (f : Discovered). Leads caller base f.id k.pair.1 d.id) from (subst (λ w. Leads caller base h.leads.from.id w d.id) way h.leads.leads) in
        same_frame (suc n) d e at there (one_end caller base k.leads.from.id k.pair.1 d.id e.id l k.leads.leads) (h.has.parent ∙ ap Some row ∙ sym k.has.parent) (h.has.key ∙ ap (λ w. Some (way_key w)) way ∙ sym k.has.key)

    alike_at : (n : ℕ) → IsAlike a b n → slice_get a n ≡ slice_get b n
    alike_at n alike = by (slice_get a n) (slice_get b n) refl refl where
      by : (o u : Option Discovered) → slice_get a n ≡ o → slice_get b n ≡ u → o ≡ u
      by (Some d) (Some e) at there = ap Some (same_next n d e alike at there)
      by None None at there = refl
      by (Some d) None at there = absurd (past a b fa fb n d alike at there)
      by None (Some e) at there = absurd (past b a fb fa n e (back n alike) there at)

    alike_upto : (n : ℕ) → IsAlike a b n
    alike_upto zero k lt = absurd (omega (arith, lt))
    alike_upto (suc n) k lt = ⊎_elim (λ less. alike_upto n k less) (λ last. let same : k ≡ n = omega (arith, last, lt) in ap (slice_get a) same ∙ alike_at n (alike_upto n) ∙ ap (slice_get b) (sym same)) (cases_lt k n)

-- lists with the same at each index
same_list : {X : Type 0} (xs ys : List X) → ((k : ℕ) → slice_get xs k ≡ slice_get ys k) → xs ≡ ys
same_list [] [] each = refl
same_list [] (y ∷ ys) each = let none = each 0 in absurd cc
same_list (x ∷ xs) [] each = let none = each 0 in absurd cc
same_list (x ∷ xs) (y ∷ ys) each = let head : x ≡ y = same_Some x y (each 0) in let tail = same_list xs ys (λ k. each (suc k)) in cc

pub one_found : FoundIsOne
one_found caller base a b fa ra fb rb = same_list a b (λ k. alike_at caller base a b fa fb ra rb k (alike_upto caller base a b fa fb ra rb k))
