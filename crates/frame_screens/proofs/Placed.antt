-- The places that are held are those of the frames that are reached.
use Rattle.std.proofs.Common.{◌≡◌, ◌≢◌, ◌∙◌, ◌<◌, ◌+◌, ℕ, Bool, true, false, cond, List, [], ◌∷◌, Option, Some, None, refl, sym, ap, length, get_or, arith}
use Rattle.std.proofs.lemmas.Bool.Decides.{nat_tests}
use Rattle.std.proofs.lemmas.List.Sums.{position_or_len_is}
use Rattle.std.proofs.lemmas.List.Quantifiers.{position-Some}
use Rattle.std.proofs.lemmas.Option.{slice_get-get_or, slice_get_within, get_or_from_slice_get}
use Rattle.std.specs.Prelude.{IfSome, slice_get, nat_lt}
use Rattle.std.specs.List.{position_or_len}
use Rattle.page_ids.specs.Ids.{Id, id_eq}
use Rattle.page_ids.specs.IdLaws.{id_eq_same, id_eq_refl}
use Rattle.frame_records.specs.Bases.{BaseView}
use Rattle.finder.specs.declared.found.Discovered.{Discovered}
use Rattle.finder.specs.Finds.{FindsReached}
use Rattle.finder.proofs.Lists.{pairs_at}
use Rattle.frame_screens.specs.Frames.{place_of}
use Rattle.frame_screens.specs.Loops.{if_before}

-- below a number and below the next one
nat_lt_more : (k i : ℕ) → k ≢ i → nat_lt k i ≡ nat_lt k (i + 1)
nat_lt_more k i other = grind (arith, nat_tests)

-- a place is one of the list
pub place_within : (found : List Discovered) (id : Id) (o : Option ℕ) → o ≡ place_of found id → IfSome o (λ p. p < length found)
place_within found id None e = tt
place_within [] id (Some p) e = absurd cc
place_within (d ∷ ds) id (Some p) e = (position-Some (λ (x : Discovered). id_eq x.id id) (d ∷ ds) p d (sym e)).0

module _ (caller : List ℕ) (base : BaseView) (found : List Discovered) (finds : FindsReached caller base found) where
  -- no frame is listed twice
  no_twice : (i j : ℕ) (d e : Discovered) → slice_get found i ≡ Some d → slice_get found j ≡ Some e → i < j → d.id ≡ e.id → ⊥
  no_twice i j d e at there lt same = pairs_at (λ (x y : Discovered). x.id ≢ y.id) found i j d e finds.once lt at there same

  -- the place of a listed frame
  place_is : (i : ℕ) (d : Discovered) → slice_get found i ≡ Some d → place_of found d.id ≡ Some i
  place_is i d at =
      let p = λ (x : Discovered). id_eq x.id d.id in
      let inside = slice_get_within found i d at in
      let here = get_or_from_slice_get found i d d at in
      let first : position_or_len p found ≡ i = position_or_len_is p found i d (omega (arith, inside)) (λ k lt. other k lt (p (get_or found k d)) refl) (λ lt. ap p here ∙ id_eq_refl d.id) in
      let within : nat_lt i (length found) ≡ true = grind (arith, nat_tests) in
      ap (λ (n : ℕ). cond (nat_lt n (length found)) (Some n) None) first ∙ ap (λ (b : Bool). cond b (Some i) None) within
    where
      other : (k : ℕ) → k < i → (b : Bool) → id_eq (get_or found k d).id d.id ≡ b → id_eq (get_or found k d).id d.id ≡ false
      other k lt false e = e
      other k lt true e =
          let inside = slice_get_within found i d at in
          absurd (no_twice k i (get_or found k d) d (slice_get-get_or found k d (omega (arith, inside))) at lt (id_eq_same (get_or found k d).id d.id e))

  -- one place more
  pub place_more : (i : ℕ) (d : Discovered) → d ≡ get_or found i d → i < length found → (id : Id) (old new : Option ℕ)
      → old ≡ if_before i (place_of found id) → new ≡ cond (id_eq d.id id) (Some i) old → new ≡ if_before (i + 1) (place_of found id)
  place_more i d at lt id old new held is = by (id_eq d.id id) refl (place_of found id) refl where
    there : slice_get found i ≡ Some d
    there = slice_get-get_or found i d lt ∙ ap Some (sym at)

    last : nat_lt i (i + 1) ≡ true
    last = grind (arith, nat_tests)

    by : (b : Bool) → id_eq d.id id ≡ b → (o : Option ℕ) → place_of found id ≡ o → new ≡ if_before (i + 1) (place_of found id)
    by true e o p =
        let place : place_of found id ≡ Some i = ap (place_of found) (sym (id_eq_same d.id id e)) ∙ place_is i d there in
        is ∙ ap (λ (b : Bool). cond b (Some i) old) e ∙ sym (ap (if_before (i + 1)) place ∙ ap (λ (b : Bool). cond b (Some i) None) last)
    by false e None p = is ∙ ap (λ (b : Bool). cond b (Some i) old) e ∙ held ∙ ap (if_before i) p ∙ sym (ap (if_before (i + 1)) p)
    by false e (Some k) p =
        let first = position-Some (λ (x : Discovered). id_eq x.id id) found k d p in
        is ∙ ap (λ (b : Bool). cond b (Some i) old) e ∙ held ∙ ap (if_before i) p
        ∙ ap (λ (b : Bool). cond b (Some k) None) (nat_lt_more k i (λ k_is. apart k_is first.1))
        ∙ sym (ap (if_before (i + 1)) p)
      where
        apart : k ≡ i → id_eq (get_or found k d).id id ≡ true → ⊥
        apart k_is listed = let no : id_eq (get_or found k d).id id ≡ false = ap (λ (n : ℕ). id_eq (get_or found n d).id id) k_is ∙ ap (λ (x : Discovered). id_eq x.id id) (sym at) ∙ e in absurd cc

  -- all places
  pub all_placed : (n : ℕ) → n ≡ length found → (id : Id) (o : Option ℕ) → o ≡ if_before n (place_of found id) → o ≡ place_of found id
  all_placed n is id o e = e ∙ by (place_of found id) refl where
    by : (p : Option ℕ) → place_of found id ≡ p → if_before n p ≡ p
    by None at = refl
    by (Some p) at =
        let within : p < length found = place_within found id (Some p) (sym at) in
        let lt : nat_lt p n ≡ true = grind (arith, nat_tests) in
        ap (λ (b : Bool). cond b (Some p) None) lt

-- nothing is before the first place
pub none_placed : (o : Option ℕ) → None ≡ if_before 0 o
none_placed None = refl
none_placed (Some p) = let none : nat_lt p 0 ≡ false = grind (arith, nat_tests) in sym (ap (λ (b : Bool). cond b (Some p) None) none)
