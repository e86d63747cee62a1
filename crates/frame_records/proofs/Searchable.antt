-- A list that ascends by a key has a binary search, and what that finds is what a search from the front finds.
use Rattle.std.proofs.Common.{◌≡◌, ◌≢◌, ℕ, zero, suc, ◌+◌, ◌-◌, ◌<◌, Bool, true, false, List, [], ◌∷◌, length, get_or, Option, Some, None, Bor, refl, sym, ap, ◌∙◌, arith, subst, cond, ◌==◌}
use Rattle.std.specs.Prelude.{find, map, slice_get, option_map, is_some, ◌||◌}
use Rattle.std.specs.List.{AllAdjacentBelow, list_any}
use Rattle.std.specs.Ordering.{is_eq, nat_cmp}
use Rattle.std.specs.List.Sorted.{IsStrictlyIncreasing}
use Rattle.std.specs.declared.cmp.Ordering.{Ordering}
use Rattle.std.specs.declared.cmp.Ordering.TheVariants.{Less, Equal, Greater}
use Rattle.std.proofs.lemmas.Bool.Decides.{nat_tests}
use Rattle.std.proofs.lemmas.List.{get_or-map, get_or_default, length-map}
use Rattle.std.proofs.lemmas.Option.{slice_get-map, slice_get_within, get_or_from_slice_get, slice_get-get_or}
use Rattle.page_ids.specs.Ids.{Id, id_cmp}
use Rattle.frame_records.specs.Bases.{MayFollow, IsSearchable, lists_page}
use Rattle.std.specs.Option.{option_copied}
use Rattle.frame_records.proofs.Finds.{find_first, find_none}

-- what is before an Equal is Less, and is no Equal
before_equal : (o : Ordering) → MayFollow o Equal → is_eq o ≡ false
before_equal Less h = refl
before_equal Equal h = absurd h
before_equal Greater h = absurd h

not_equal : (o : Ordering) → o ≢ Equal → is_eq o ≡ false
not_equal Less h = refl
not_equal Equal h = absurd (h refl)
not_equal Greater h = refl

-- keys that ascend, by any order that is transitive and keeps to what is wanted
module _ {K A : Type 0} (cmp : K → K → Ordering) (trans : (a b c : K) → cmp a b ≡ Less → cmp b c ≡ Less → cmp a c ≡ Less) (follows : (a b w : K) → cmp a b ≡ Less → MayFollow (cmp a w) (cmp b w)) (key : A → K) where
  -- n places further on
  pub rises : (xs : List A) → AllAdjacentBelow (λ a b. cmp (key a) (key b) ≡ Less) xs (length xs) → (i j n : ℕ) (d : A) → j ≡ i + n + 1 → j < length xs → cmp (key (get_or xs i d)) (key (get_or xs j d)) ≡ Less
  rises xs up i j zero d e lt = let next : j ≡ i + 1 = omega (arith, e) in rw next (up i d (omega (arith, lt, next)))
  rises xs up i j (suc n) d e lt =
      let next : j ≡ i + n + 1 + 1 = omega (arith, e) in
      trans (key (get_or xs i d)) (key (get_or xs (i + n + 1) d)) (key (get_or xs j d)) (rises xs up i (i + n + 1) n d refl (omega (arith, lt, next))) (rw next (up (i + n + 1) d (omega (arith, lt, next))))

  from_first : (xs : List A) (wanted : K) (d : A) → AllAdjacentBelow (λ a b. cmp (key a) (key b) ≡ Less) xs (length xs) → IsSearchable (map (λ a. cmp (key a) wanted) xs)
  from_first xs wanted d up i j before lt =
      let many : length (map (λ (a : A). cmp (key a) wanted) xs) ≡ length xs = length-map xs (λ (a : A). cmp (key a) wanted) in
      let within : j < length xs = omega (arith, lt, many) in
      let here : get_or (map (λ (a : A). cmp (key a) wanted) xs) i Less ≡ cmp (key (get_or xs i d)) wanted = get_or-map (λ (a : A). cmp (key a) wanted) xs i d Less (omega (arith, before, within)) in
      let there : get_or (map (λ (a : A). cmp (key a) wanted) xs) j Less ≡ cmp (key (get_or xs j d)) wanted = get_or-map (λ (a : A). cmp (key a) wanted) xs j d Less within in
      rw (here, there) (follows (key (get_or xs i d)) (key (get_or xs j d)) wanted (rises xs up i j (j - (i + 1)) d (omega (arith, before)) within))

  pub searchable : (xs : List A) (wanted : K) → AllAdjacentBelow (λ a b. cmp (key a) (key b) ≡ Less) xs (length xs) → IsSearchable (map (λ a. cmp (key a) wanted) xs)
  searchable [] wanted up = λ i j before lt. absurd (omega (arith, lt))
  searchable (x ∷ xs) wanted up = from_first (x ∷ xs) wanted x up

-- what a search finds among entries of which it saw how each compares
module _ {A : Type 0} (compare : A → Ordering) (xs : List A) where
  pub place_within : (i : ℕ) → slice_get (map compare xs) i ≡ Some Equal → i < length xs
  place_within i e = omega (arith, length-map xs compare, slice_get_within (map compare xs) i Equal e)

  pub found_is : (i : ℕ) (x : A) → IsSearchable (map compare xs) → slice_get (map compare xs) i ≡ Some Equal → get_or xs i x ≡ x → find (λ a. is_eq (compare a)) xs ≡ Some x
  found_is i x up e at =
      let lt = place_within i e in
      let is : get_or (map compare xs) i Less ≡ Equal = get_or_from_slice_get (map compare xs) i Equal Less e in
      let many : length (map compare xs) ≡ length xs = length-map xs compare in
      let equal : compare x ≡ Equal = ap compare (sym at) ∙ sym (get_or-map compare xs i x Less lt) ∙ is in
      find_first (λ (a : A). is_eq (compare a)) xs i x lt at (ap is_eq equal) (λ k before.
      let first : get_or (map compare xs) k Less ≡ compare (get_or xs k x) = get_or-map compare xs k x Less (omega (arith, lt, before)) in
      let follows : MayFollow (get_or (map compare xs) k Less) (get_or (map compare xs) i Less) = up k i before (omega (arith, lt, many)) in
      before_equal (compare (get_or xs k x)) (subst (λ (o : Ordering). MayFollow o Equal) first (subst (λ (o : Ordering). MayFollow (get_or (map compare xs) k Less) o) is follows)))

  pub none_is : ((i : ℕ) → slice_get (map compare xs) i ≢ Some Equal) → find (λ a. is_eq (compare a)) xs ≡ None
  none_is never = find_none (λ (a : A). is_eq (compare a)) xs (λ k d lt. not_equal (compare (get_or xs k d)) (λ e.
      never k (slice_get-map compare xs k ∙ ap (option_map compare) (slice_get-get_or xs k d lt) ∙ ap Some e)))

-- if one test passes, some element is found by another that agrees
any_same : {A : Type 0} (p q : A → Bool) → ((a : A) → p a ≡ q a) → (xs : List A) → is_some (find p xs) ≡ list_any q xs
any_same p q same [] = refl
any_same p q same (x ∷ xs) = by (p x) (q x) (same x) (any_same p q same xs) where
  by : (a b : Bool) → a ≡ b → is_some (find p xs) ≡ list_any q xs → is_some (cond a (Some x) (find p xs)) ≡ (b || list_any q xs)
  by true true e rest = refl
  by false false e rest = rest
  by true false e rest = absurd cc
  by false true e rest = absurd cc

-- the order of ids, and that of numbers
id_after : (a b w : Id) (o p : Ordering) → id_cmp a b ≡ Less → id_cmp a w ≡ o → id_cmp b w ≡ p → MayFollow o p
id_after a b w Less p lt e f = tt
id_after a b w Equal Less lt e f = absurd (grind (arith, nat_tests))
id_after a b w Equal Equal lt e f = absurd (grind (arith, nat_tests))
id_after a b w Equal Greater lt e f = tt
id_after a b w Greater Less lt e f = absurd (grind (arith, nat_tests))
id_after a b w Greater Equal lt e f = absurd (grind (arith, nat_tests))
id_after a b w Greater Greater lt e f = tt

id_trans : (a b c : Id) → id_cmp a b ≡ Less → id_cmp b c ≡ Less → id_cmp a c ≡ Less
id_trans a b c h k = grind (arith, nat_tests)

pub ids_searchable : {A : Type 0} (key : A → Id) (xs : List A) (wanted : Id) → AllAdjacentBelow (λ a b. id_cmp (key a) (key b) ≡ Less) xs (length xs) → IsSearchable (map (λ a. id_cmp (key a) wanted) xs)
ids_searchable key = searchable id_cmp id_trans (λ a b w lt. id_after a b w (id_cmp a w) (id_cmp b w) lt refl refl) key

page_after : (a b w : ℕ) (o p : Ordering) → nat_cmp a b ≡ Less → nat_cmp a w ≡ o → nat_cmp b w ≡ p → MayFollow o p
page_after a b w Less p lt e f = tt
page_after a b w Equal Less lt e f = absurd (grind (arith, nat_tests))
page_after a b w Equal Equal lt e f = absurd (grind (arith, nat_tests))
page_after a b w Equal Greater lt e f = tt
page_after a b w Greater Less lt e f = absurd (grind (arith, nat_tests))
page_after a b w Greater Equal lt e f = absurd (grind (arith, nat_tests))
page_after a b w Greater Greater lt e f = tt

page_trans : (a b c : ℕ) → nat_cmp a b ≡ Less → nat_cmp b c ≡ Less → nat_cmp a c ≡ Less
page_trans a b c h k = grind (arith, nat_tests)

less_number : (a b : ℕ) → a < b → nat_cmp a b ≡ Less
less_number a b lt = grind (arith, nat_tests)

pages_ascend : (xs : List ℕ) → IsStrictlyIncreasing xs → AllAdjacentBelow (λ a b. nat_cmp a b ≡ Less) xs (length xs)
pages_ascend xs up k d lt =
    let here : get_or xs k d ≡ get_or xs k 0 = get_or_default xs k d 0 (omega (arith, lt)) in
    let next : get_or xs (k + 1) d ≡ get_or xs (k + 1) 0 = get_or_default xs (k + 1) d 0 lt in
    less_number (get_or xs k d) (get_or xs (k + 1) d) (omega (arith, here, next, up k lt))

pub pages_searchable : (xs : List ℕ) (wanted : ℕ) → IsStrictlyIncreasing xs → IsSearchable (map (λ p. nat_cmp p wanted) xs)
pages_searchable xs wanted up = searchable nat_cmp page_trans (λ a b w lt. page_after a b w (nat_cmp a w) (nat_cmp b w) lt refl refl) (λ p. p) xs wanted (pages_ascend xs up)

same_pages : (a b : ℕ) → is_eq (nat_cmp a b) ≡ (a == b)
same_pages a b = grind (arith, nat_tests)

-- a page that is found is listed, and one that isn't is not
pub listed_by_page : (found : Option (Bor ℕ)) (xs : List ℕ) (wanted : ℕ) → option_copied found ≡ find (λ p. is_eq (nat_cmp p wanted)) xs → is_some found ≡ lists_page xs wanted
listed_by_page None xs wanted e = ap is_some e ∙ any_same (λ (p : ℕ). is_eq (nat_cmp p wanted)) (λ (p : ℕ). p == wanted) (λ p. same_pages p wanted) xs
listed_by_page (Some page) xs wanted e = ap is_some e ∙ any_same (λ (p : ℕ). is_eq (nat_cmp p wanted)) (λ (p : ℕ). p == wanted) (λ p. same_pages p wanted) xs
