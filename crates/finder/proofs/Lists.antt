-- What is in a list with one more at its end, and in a list with one changed.
use Rattle.std.proofs.Common.{◌≡◌, ◌<◌, ◌≤◌, ◌⊎◌, inl, inr, ℕ, zero, suc, Bool, true, false, List, [], ◌∷◌, ◌++◌, Option, Some, None, option_map, slice_get, length, get_or, set, All, AllPairs, Any, Contains, cond, count_by, sym, ◌∙◌, ap, subst, refl, ⊎_elim, length-append, arith}
use Rattle.std.specs.Prelude.{nat_eq}
use Rattle.std.specs.List.{list_any}
use Rattle.std.proofs.lemmas.Bool.Decides.{nat_tests}
use Rattle.indexmap.specs.IndexSet.{insert_key}
use Rattle.std.proofs.lemmas.List.Folds.{Any-from_list_any}
use Rattle.finder.proofs.Words.{count_by-le-length, sum_by-set, length-set, get_or-set_other, get_or_append_left, same_Some, slice_get_cases, slice_get_within, slice_get_read, get_or_from_slice_get}

pub at_push : {X : Type 0} (xs : List X) (y : X) (j : ℕ) (x : X) → slice_get (xs ++ y ∷ []) j ≡ Some x
    → (slice_get xs j ≡ Some x) ⊎ ((j ≡ length xs) × (y ≡ x))
at_push [] y zero x h = inr (refl, cc)
at_push [] y (suc j) x h = absurd cc
at_push (z ∷ zs) y zero x h = inl h
at_push (z ∷ zs) y (suc j) x h =
    elim (at_push zs y j x h) [
      | inl e ↦ inl e
      | inr e ↦ inr (omega (arith, e.0), e.1)
    ]

pub push_at : {X : Type 0} (xs : List X) (y : X) (j : ℕ) (x : X) → slice_get xs j ≡ Some x
    → slice_get (xs ++ y ∷ []) j ≡ Some x
push_at [] y j x h = absurd cc
push_at (z ∷ zs) y zero x h = h
push_at (z ∷ zs) y (suc j) x h = push_at zs y j x h

pub none_past : {X : Type 0} (xs : List X) (j : ℕ) → slice_get xs j ≡ None → length xs ≤ j
none_past xs j none = ⊎_elim (λ inside. let some = inside.2 in absurd cc) (λ past. past.0) (slice_get_cases xs j).1

pub at_within : {X : Type 0} (xs : List X) (j : ℕ) → j < length xs → (x : X) × (slice_get xs j ≡ Some x)
at_within xs j lt = ⊎_elim (λ inside. (inside.0, inside.2)) (λ past. absurd (omega (arith, past.0, lt))) (slice_get_cases xs j).1

-- what holds of each holds of the one at an index
pub all_at : {X : Type 0} (P : X → Type 0) (xs : List X) (j : ℕ) (x : X) → All P xs → slice_get xs j ≡ Some x → P x
all_at P xs j x all at = subst P (get_or_from_slice_get xs j x x at) (all j x (slice_get_within xs j x at))

-- a value stays if another one is changed
pub set_kept : {X : Type 0} (xs : List X) (i j : ℕ) (y d v : X) → get_or xs j d ≡ v → (get_or xs i d ≡ v → ⊥)
    → get_or (set xs i y) j d ≡ v
set_kept xs i j y d v here not_there = get_or-set_other xs i j y d (λ same. not_there (ap (λ k. get_or xs k d) (sym same) ∙ here)) ∙ here

pub any_grown : {X : Type 0} (P : X → Type 0) (xs : List X) (y : X) → Any P xs → Any P (xs ++ y ∷ [])
any_grown P xs y some = (some.0, some.1, omega (arith, some.2, length-append xs (y ∷ [])), get_or_append_left xs (y ∷ []) some.1 some.0 some.2 ∙ some.3, some.4)

pub true_within : (xs : List Bool) (j : ℕ) → get_or xs j false ≡ true → j < length xs
true_within [] j h = absurd cc
true_within (z ∷ zs) zero h = omega arith
true_within (z ∷ zs) (suc j) h = omega (arith, true_within zs j h)

pub any_of : {X : Type 0} (P : X → Type 0) (xs : List X) (j : ℕ) (x : X) → slice_get xs j ≡ Some x → P x → Any P xs
any_of P xs j x at p = (j, x, slice_get_within xs j x at, get_or_from_slice_get xs j x x at, p)

pub any_at : {X : Type 0} (P : X → Type 0) (xs : List X) → Any P xs
    → (j : ℕ) × (x : X) × (slice_get xs j ≡ Some x) × P x
any_at P xs some = (some.0, some.1, slice_get_read xs (length xs) some.0 some.1 refl some.2 (sym some.3), some.4)

-- what holds of each two holds of two at indices
pub pairs_at : {X : Type 0} (R : X → X → Type 0) (xs : List X) (i j : ℕ) (x y : X) → AllPairs R xs → i < j
    → slice_get xs i ≡ Some x → slice_get xs j ≡ Some y → R x y
pairs_at R xs i j x y all lt at there = subst (R x) (get_or_from_slice_get xs j y x there) (subst (λ z. R z (get_or xs j x)) (get_or_from_slice_get xs i x x at) (all i j x lt (slice_get_within xs j y there)))

pub mapped : {X Y : Type 0} (f : X → Y) (o : Option X) (y : Y) → option_map f o ≡ Some y
    → (x : X) × (o ≡ Some x) × (f x ≡ y)
mapped f None y e = absurd cc
mapped f (Some x) y e = (x, refl, same_Some (f x) y e)

-- if each element is counted, each passes the test
pub full_at : {X : Type 0} (p : X → Bool) (xs : List X) (i : ℕ) (y d : X) → p y ≡ true → length xs ≤ count_by p xs
    → i < length xs → p (get_or xs i d) ≡ true
full_at p xs i y d passes full lt = by (p (get_or xs i d)) refl where
  by : (b : Bool) → p (get_or xs i d) ≡ b → b ≡ true
  by true e = refl
  by false e = absurd (omega (arith, sum_by-set (λ x. cond (p x) 1 0) xs i y d lt, ap {B = ℕ} (λ b. cond b 1 0) e, ap {B = ℕ} (λ b. cond b 1 0) passes, count_by-le-length p (set xs i y), length-set xs i y, full))

-- an element is at an index
pub contains_at : {X : Type 0} (xs : List X) (x : X) → Contains xs x → (i : ℕ) × (slice_get xs i ≡ Some x)
contains_at xs x there = (there.0, slice_get_read xs (length xs) there.0 x refl there.1 (sym there.2))

pub at_contains : {X : Type 0} (xs : List X) (i : ℕ) (x : X) → slice_get xs i ≡ Some x → Contains xs x
at_contains xs i x at = (i, slice_get_within xs i x at, get_or_from_slice_get xs i x x at)

pub same_number : (a b : ℕ) → nat_eq a b ≡ true → a ≡ b
same_number a b e = grind (arith, nat_tests)

-- a new key goes last
pub insert_new : (keys : List ℕ) (key : ℕ) → (Contains keys key → ⊥) → insert_key nat_eq keys key ≡ keys ++ key ∷ []
insert_new keys key new = by (list_any (nat_eq key) keys) refl where
  by : (b : Bool) → list_any (nat_eq key) keys ≡ b → cond b keys (keys ++ key ∷ []) ≡ keys ++ key ∷ []
  by true e =
      let a = Any-from_list_any (nat_eq key) keys e in
      absurd (new (subst (λ (k : ℕ). Contains keys k) (sym (same_number key a.1 a.4)) (a.0, a.2, a.3)))
  by false e = refl
