-- What is found is the nearest.
use Rattle.std.specs.Prelude.{◌≡◌, ◌⊎◌, ℕ, ◌+◌, Bool, true, false, List, [], ◌∷◌, Option, Some, None, if◌then◌else◌}
use Rattle.std.proofs.Common.{arith, ap, refl, subst, sym, inl, inr}
use Rattle.std.proofs.lemmas.Bool.Decides.{nat_tests}
use Rattle.near_words.specs.Near.{is_below, found_after, nearest, steps_to, NoneBelow, IsNearestBelow, IsNearest}

module _ {A : Type 0} (name_of : A → List ℕ) (word : List ℕ) where
  abbrev is_near : ℕ → A → Bool
  is_near steps x = is_below steps word (name_of x)

  -- none of them is below a number of steps, and what was found before is found; or the nearest of them is
  abbrev IsFound : ℕ → Option A → List A → Option A → Type 0
  IsFound steps found xs result =
      ((result ≡ found) × NoneBelow name_of word steps xs)
      ⊎ ((x : A) × (result ≡ Some x) × IsNearestBelow name_of word steps xs x)

  -- one that isn't as near, before the nearest
  one_before : (steps less : ℕ) (x y : A) (xs : List A) → is_near (steps_to name_of word y + 1) x ≡ false
      → is_near steps y ≡ true → IsNearestBelow name_of word less xs y → IsNearestBelow name_of word steps (x ∷ xs) y
  one_before steps less x y xs further near is =
      (x ∷ is.0, is.1, ap (λ (ys : List A). x ∷ ys) is.2, near, (further, is.4), is.5)

  one_more : (steps : ℕ) (found : Option A) (x : A) (xs : List A) (result : Option A) (b : Bool) → is_near steps x ≡ b
      → IsFound (if b then steps_to name_of word x else steps) (if b then Some x else found) xs result
      → IsFound steps found (x ∷ xs) result
  one_more steps found x xs result true e (inl none) = inr (x, none.0, ([], xs, refl, e, tt, none.1))
  one_more steps found x xs result true e (inr some) =
      let near = some.2.3 in
      let further : is_near (steps_to name_of word some.0 + 1) x ≡ false = grind (arith, nat_tests) in
      inr (some.0, some.1, one_before steps (steps_to name_of word x) x some.0 xs further (grind (arith, nat_tests)) some.2)
  one_more steps found x xs result false e (inl none) = inl (none.0, (e, none.1))
  one_more steps found x xs result false e (inr some) =
      let near = some.2.3 in
      inr (some.0, some.1, one_before steps steps x some.0 xs (grind (arith, nat_tests)) near some.2)

  is_found : (steps : ℕ) (found : Option A) (xs : List A)
      → IsFound steps found xs (found_after name_of (record { word = word; below = steps }) found xs)
  is_found steps found [] = inl (refl, tt)
  is_found steps found (x ∷ xs) =
      let b = is_near steps x in
      let below = if b then steps_to name_of word x else steps in
      one_more steps found x xs _ b refl (is_found below (if b then Some x else found) xs)

  from_none : (xs : List A) (result : Option A) → IsFound 3 None xs result → IsNearest name_of word xs result
  from_none xs None (inl none) = none.1
  from_none xs None (inr some) = absurd cc
  from_none xs (Some y) (inl none) = absurd cc
  from_none xs (Some y) (inr some) =
      let same : some.0 ≡ y = cc in
      subst (IsNearestBelow name_of word 3 xs) same some.2

-- what is found among some is the nearest of them
pub found_is_nearest : {A : Type 0} (name_of : A → List ℕ) (word : List ℕ) (xs : List A) (found : Option A)
    → found ≡ nearest name_of word xs → IsNearest name_of word xs found
found_is_nearest name_of word xs found e =
    let whole = from_none name_of word xs (nearest name_of word xs) (is_found name_of word 3 None xs) in
    subst (λ r. IsNearest name_of word xs r) (sym e) whole
