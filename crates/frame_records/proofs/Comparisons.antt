-- How many entries a binary search compares: at most 16, and at least one if there is any.
use Rattle.std.proofs.Common.{◌≡◌, ◌∙◌, ℕ, zero, suc, ◌+◌, ◌-◌, ◌/◌, ◌*◌, ◌^◌, ◌<◌, ◌≤◌, Bool, true, false, ltb, cond, List, length, get_or, ap, arith}
use Rattle.std.proofs.lemmas.Nat.{pow-add}
use Rattle.std.proofs.lemmas.Bool.Decides.{nat_tests}
use Rattle.std.specs.declared.cmp.Ordering.{Ordering}
use Rattle.std.specs.declared.cmp.Ordering.TheVariants.{Less, Equal, Greater}
use Rattle.frame_records.specs.Bases.{after_middle, compared_between, comparisons}
use Rattle.frame_records.proofs.BinarySearch.{none_between}

either_few : (o : Ordering) (above below k : ℕ) → above ≤ k → below ≤ k → after_middle o above below ≤ k
either_few Less above below k p q = p
either_few Equal above below k p q = omega arith
either_few Greater above below k p q = q

few_after : (b : Bool) (n k : ℕ) → n ≤ k → cond b (1 + n) 0 ≤ suc k
few_after true n k le = omega (arith, le)
few_after false n k le = omega arith

-- fewer than 2^k entries take at most k comparisons
few_between : (fuel k : ℕ) (xs : List Ordering) (low high : ℕ) → high - low < 2 ^ k → compared_between fuel xs low high ≤ k
few_between zero k xs low high lt = omega arith
few_between (suc fuel) zero xs low high lt = let none = none_between (suc fuel) xs low high (omega (arith, lt)) in omega (arith, none)
few_between (suc fuel) (suc k) xs low high lt =
    let double : 2 ^ suc k ≡ 2 ^ k * 2 = ap (λ (n : ℕ). 2 ^ n) (omega arith) ∙ pow-add 2 k 1 in
    let middle = low + (high - low) / 2 in
    let above = few_between fuel k xs (middle + 1) high (omega (arith, lt, double)) in
    let below = few_between fuel k xs low middle (omega (arith, lt, double)) in
    few_after (ltb low high) _ k (either_few (get_or xs middle Less) _ _ k above below)

pub few_compared : (xs : List Ordering) → length xs ≤ 65535 → comparisons xs ≤ 16
few_compared xs few = few_between (length xs) 16 xs 0 (length xs) (omega (arith, few))

some_between : (fuel : ℕ) (xs : List Ordering) (high : ℕ) → 0 < high → 0 < fuel → 1 ≤ compared_between fuel xs 0 high
some_between zero xs high some lt = absurd (omega (arith, lt))
some_between (suc fuel) xs high some lt = let is : ltb 0 high ≡ true = grind (arith, nat_tests, some) in rw is (omega arith)

pub some_compared : (xs : List Ordering) → 0 < length xs → 1 ≤ comparisons xs
some_compared xs some = some_between (length xs) xs (length xs) some some
