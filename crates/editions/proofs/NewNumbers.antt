-- No edition has a number above the greatest.
use Rattle.std.proofs.Common.{◌≡◌, ◌<◌, ◌≤◌, ◌+◌, ℕ, max, Bool, true, false, cond, ltb, List, [], ◌∷◌, map, Option, Some, None, refl, arith, nat_eq}
use Rattle.std.proofs.Math.Nat.{le-max_left, le-max_right}
use Rattle.std.proofs.lemmas.Bool.Decides.{nat_tests}
use Rattle.editions.specs.Folders.{FilesSeen, edition_among, greatest, NextIsNew}

abbrev number_of : ℕ × FilesSeen → ℕ
number_of e = e.0

found_by : (b : Bool) (x : FilesSeen) (o : Option FilesSeen) (files : FilesSeen) (P : Type 0) → (b ≡ true → P) → (o ≡ Some files → P) → cond b (Some x) o ≡ Some files → P
found_by true x o files P here there e = here refl
found_by false x o files P here there e = there e

-- each number is at most the greatest
at_most : (editions : List (ℕ × FilesSeen)) (k : ℕ) (files : FilesSeen) → edition_among editions k ≡ Some files → k ≤ greatest (map number_of editions)
at_most [] k files e = absurd cc
at_most (x ∷ editions) k files e =
    let left = le-max_left x.0 (greatest (map number_of editions)) in
    let right = le-max_right x.0 (greatest (map number_of editions)) in
    found_by (nat_eq x.0 k) x.1 (edition_among editions k) files (k ≤ max x.0 (greatest (map number_of editions)))
    (λ same. let is : x.0 ≡ k = grind (arith, nat_tests, same) in omega (arith, is, left))
    (λ later. let le = at_most editions k files later in omega (arith, le, right))
    e

none_by : (o : Option FilesSeen) → ((files : FilesSeen) → o ≡ Some files → ⊥) → o ≡ None
none_by None h = refl
none_by (Some files) h = absurd (h files refl)

is_next : (b : Bool) (m n : ℕ) → cond b (Some (m + 1)) None ≡ Some n → (b ≡ true) × (m + 1 ≡ n)
is_next true m n e = (refl, cc)
is_next false m n e = absurd cc

pub next_new : NextIsNew
next_new editions n e =
    let most = greatest (map number_of editions) in
    let next = is_next (ltb most 999999999) most n e in
    let below : most < 999999999 = grind (arith, nat_tests, next.0) in
    let smaller : (k : ℕ) (files : FilesSeen) → edition_among editions k ≡ Some files → k < n = λ k files there. let le = at_most editions k files there in omega (arith, le, next.1) in
    record {
      free = none_by (edition_among editions n) (λ files there. let less = smaller n files there in omega (arith, less));
      most = omega (arith, below, next.1);
      smaller = smaller;
    }
