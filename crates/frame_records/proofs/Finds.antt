-- What `find` finds in a list: the first element that passes a test.
use Rattle.std.proofs.Common.{◌≡◌, ℕ, zero, suc, ◌+◌, ◌<◌, ◌≤◌, Bool, true, false, cond, List, [], ◌∷◌, length, get_or, Some, None, refl, sym, ap, ◌∙◌, arith}
use Rattle.std.specs.Prelude.{find, count_by, position}
use Rattle.std.specs.List.{position_from}
use Rattle.std.proofs.lemmas.Iterator.Adapters.{position_from-zero}
use Rattle.std.proofs.lemmas.List.Sums.{sum_by-cons}

-- the place of what was found; all before it fail the test
pub record IsFirst {A : Type 0} (test : A → Bool) (xs : List A) (x : A) (i : ℕ) : Type 0 where
  pub within : i < length xs
  pub at : (d : A) → get_or xs i d ≡ x
  pub passes : test x ≡ true
  pub before : (k : ℕ) (d : A) → k < i → test (get_or xs k d) ≡ false

before_more : {A : Type 0} (test : A → Bool) (y : A) (ys : List A) (i : ℕ) → test y ≡ false → ((k : ℕ) (d : A) → k < i → test (get_or ys k d) ≡ false) → (k : ℕ) (d : A) → k < suc i → test (get_or (y ∷ ys) k d) ≡ false
before_more test y ys i is f zero d lt = is
before_more test y ys i is f (suc k) d lt = f k d (omega arith)

first_by : {A : Type 0} (test : A → Bool) (b : Bool) (y : A) (ys : List A) (x : A) → test y ≡ b → cond b (Some y) (find test ys) ≡ Some x → ((find test ys ≡ Some x) → (i : ℕ) × IsFirst test ys x i) → (i : ℕ) × IsFirst test (y ∷ ys) x i
first_by test true y ys x is e rest =
    let same : y ≡ x = cc in
    (0, record { within = omega arith; at = λ d. same; passes = ap test (sym same) ∙ is; before = λ k d lt. absurd (omega arith) })
first_by test false y ys x is e rest =
    let r = rest e in
    (suc r.0, record { within = omega (arith, r.1.within); at = λ d. r.1.at d; passes = r.1.passes; before = before_more test y ys r.0 is r.1.before })

pub first_found : {A : Type 0} (test : A → Bool) (xs : List A) (x : A) → find test xs ≡ Some x → (i : ℕ) × IsFirst test xs x i
first_found test [] x e = absurd cc
first_found test (y ∷ ys) x e = first_by test (test y) y ys x refl e (first_found test ys x)

none_by : {A : Type 0} (test : A → Bool) (b : Bool) (y : A) (ys : List A) → test y ≡ b → cond b (Some y) (find test ys) ≡ None → ((find test ys ≡ None) → (k : ℕ) (d : A) → k < length ys → test (get_or ys k d) ≡ false) → (k : ℕ) (d : A) → k < suc (length ys) → test (get_or (y ∷ ys) k d) ≡ false
none_by test true y ys is e rest = absurd cc
none_by test false y ys is e rest = before_more test y ys (length ys) is (rest e)

-- if nothing is found, each element fails the test
pub none_found : {A : Type 0} (test : A → Bool) (xs : List A) → find test xs ≡ None → (k : ℕ) (d : A) → k < length xs → test (get_or xs k d) ≡ false
none_found test [] e k d lt = absurd (omega arith)
none_found test (y ∷ ys) e k d lt = none_by test (test y) y ys refl e (none_found test ys) k d (omega arith)

-- the element at the first place that passes is found
pub find_first : {A : Type 0} (test : A → Bool) (xs : List A) (i : ℕ) (x : A) → i < length xs → get_or xs i x ≡ x → test x ≡ true → ((k : ℕ) → k < i → test (get_or xs k x) ≡ false) → find test xs ≡ Some x
find_first test [] i x lt at is before = absurd (omega arith)
find_first test (y ∷ ys) zero x lt at is before = let passes : test y ≡ true = ap test at ∙ is in rw passes (ap Some at)
find_first test (y ∷ ys) (suc i) x lt at is before =
    let fails : test y ≡ false = before 0 (omega arith) in
    rw fails (find_first test ys i x (omega arith) at is (λ k l. before (suc k) (omega arith)))

-- if each element fails, nothing is found
pub find_none : {A : Type 0} (test : A → Bool) (xs : List A) → ((k : ℕ) (d : A) → k < length xs → test (get_or xs k d) ≡ false) → find test xs ≡ None
find_none test [] all = refl
find_none test (y ∷ ys) all =
    let fails : test y ≡ false = all 0 y (omega arith) in
    rw fails (find_none test ys (λ k d l. all (suc k) d (omega arith)))

-- a place at which one passes, and two of them
pub record IsPlace {A : Type 0} (test : A → Bool) (xs : List A) (k : ℕ) : Type 0 where
  pub within : k < length xs
  pub passes : (d : A) → test (get_or xs k d) ≡ true

count_cons : {A : Type 0} (test : A → Bool) (y : A) (ys : List A) → count_by test (y ∷ ys) ≡ cond (test y) 1 0 + count_by test ys
count_cons test y ys = sum_by-cons (λ x. cond (test x) 1 0) y ys

count_true : {A : Type 0} (test : A → Bool) (y : A) (ys : List A) → test y ≡ true → count_by test (y ∷ ys) ≡ 1 + count_by test ys
count_true test y ys is = count_cons test y ys ∙ ap (λ (b : Bool). cond b 1 0 + count_by test ys) is

count_le : {A : Type 0} (test : A → Bool) (y : A) (ys : List A) → count_by test ys ≤ count_by test (y ∷ ys)
count_le test y ys = omega (arith, count_cons test y ys)

one_by : {A : Type 0} (test : A → Bool) (b : Bool) (y : A) (ys : List A) → test y ≡ b → 1 ≤ cond b 1 0 + count_by test ys → (1 ≤ count_by test ys → (k : ℕ) × IsPlace test ys k) → (k : ℕ) × IsPlace test (y ∷ ys) k
one_by test true y ys is some rest = (0, record { within = omega arith; passes = λ d. is })
one_by test false y ys is some rest = let r = rest (omega arith) in (suc r.0, record { within = omega (arith, r.1.within); passes = λ d. r.1.passes d })

pub one_place : {A : Type 0} (test : A → Bool) (xs : List A) → 1 ≤ count_by test xs → (k : ℕ) × IsPlace test xs k
one_place test [] some = absurd (omega arith)
one_place test (y ∷ ys) some = one_by test (test y) y ys refl (omega (arith, count_cons test y ys)) (one_place test ys)

two_by : {A : Type 0} (test : A → Bool) (b : Bool) (y : A) (ys : List A) → test y ≡ b → 2 ≤ cond b 1 0 + count_by test ys → (2 ≤ count_by test ys → (j k : ℕ) × (j < k) × IsPlace test ys j × IsPlace test ys k) → (j k : ℕ) × (j < k) × IsPlace test (y ∷ ys) j × IsPlace test (y ∷ ys) k
two_by test true y ys is some rest =
    let r = one_place test ys (omega arith) in
    (0, suc r.0, omega arith, record { within = omega arith; passes = λ d. is }, record { within = omega (arith, r.1.within); passes = λ d. r.1.passes d })
two_by test false y ys is some rest =
    let r = rest (omega arith) in
    (suc r.0, suc r.1, omega (arith, r.2), record { within = omega (arith, r.3.within); passes = λ d. r.3.passes d }, record { within = omega (arith, r.4.within); passes = λ d. r.4.passes d })

pub two_places : {A : Type 0} (test : A → Bool) (xs : List A) → 2 ≤ count_by test xs → (j k : ℕ) × (j < k) × IsPlace test xs j × IsPlace test xs k
two_places test [] some = absurd (omega arith)
two_places test (y ∷ ys) some = two_by test (test y) y ys refl (omega (arith, count_cons test y ys)) (two_places test ys)

behind : {A : Type 0} (test : A → Bool) (y : A) (ys : List A) (k : ℕ) → IsPlace test (y ∷ ys) (suc k) → IsPlace test ys k
behind test y ys k h = record { within = omega (arith, h.within); passes = λ d. h.passes d }

pub count_one : {A : Type 0} (test : A → Bool) (xs : List A) (k : ℕ) → IsPlace test xs k → 1 ≤ count_by test xs
count_one test [] k h = absurd (omega (arith, h.within))
count_one test (y ∷ ys) zero h = omega (arith, count_true test y ys (h.passes y))
count_one test (y ∷ ys) (suc k) h = omega (arith, count_one test ys k (behind test y ys k h), count_le test y ys)

pub count_two : {A : Type 0} (test : A → Bool) (xs : List A) (j k : ℕ) → j < k → IsPlace test xs j → IsPlace test xs k → 2 ≤ count_by test xs
count_two test [] j k lt h g = absurd (omega (arith, h.within))
count_two test (y ∷ ys) zero zero lt h g = absurd (omega arith)
count_two test (y ∷ ys) zero (suc k) lt h g = omega (arith, count_true test y ys (h.passes y), count_one test ys k (behind test y ys k g))
count_two test (y ∷ ys) (suc j) zero lt h g = absurd (omega arith)
count_two test (y ∷ ys) (suc j) (suc k) lt h g = omega (arith, count_two test ys j k (omega arith) (behind test y ys j h) (behind test y ys k g), count_le test y ys)

none_by_test : {A : Type 0} (p : A → Bool) (x : A) (xs : List A) (i : ℕ) (d : A) → ((j : ℕ) → position_from p (i + 1) xs ≡ None → j < length xs → p (get_or xs j d) ≡ false) → (b : Bool) → p x ≡ b → cond b (Some i) (position_from p (i + 1) xs) ≡ None → (k : ℕ) → k < length (x ∷ xs) → p (get_or (x ∷ xs) k d) ≡ false
none_by_test p x xs i d rest true e h k lt = cc
none_by_test p x xs i d rest false e h zero lt = e
none_by_test p x xs i d rest false e h (suc k) lt = rest k h (omega arith)

-- an element of which the test was found false
none_from : {A : Type 0} (p : A → Bool) (xs : List A) (i k : ℕ) (d : A) → position_from p i xs ≡ None → k < length xs → p (get_or xs k d) ≡ false
none_from p [] i k d h lt = absurd (omega arith)
none_from p (x ∷ xs) i k d h lt = none_by_test p x xs i d (λ j e l. none_from p xs (i + 1) j d e l) (p x) refl h k lt

-- if no place is found, none passes
pub none_passes : {A : Type 0} (p : A → Bool) (xs : List A) (k : ℕ) (d : A) → position p xs ≡ None → k < length xs → p (get_or xs k d) ≡ false
none_passes p xs k d h lt = none_from p xs 0 k d (sym (position_from-zero p xs) ∙ h) lt
