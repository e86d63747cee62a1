-- Without a fork, what an edition follows isn't passed by an edition between them that follows another.
use Rattle.std.proofs.Common.{◌≡◌, ◌<◌, ◌≤◌, ◌⊎◌, ℕ, Bool, true, false, cond, nat_lt, List, [], ◌∷◌, map, Option, Some, None, inl, inr, refl, sym, subst, arith}
use Rattle.std.proofs.lemmas.Bool.Decides.{nat_tests}
use Rattle.std.proofs.lemmas.List.Sorted.{IsNonDecreasingBy-drop}
use Rattle.std.proofs.lemmas.List.Elements.{All-head, All-tail}
use Rattle.std.specs.List.{All}
use Rattle.std.specs.List.Sorted.{IsNonDecreasing}
use Rattle.std.specs.Option.{option_or}
use Rattle.edition_lists.specs.declared.finding.EditionFinding.{EditionFinding}
use Rattle.edition_lists.specs.declared.forks.Fork.{Fork}
use Rattle.edition_lists.specs.Forks.{followed, fork_after, last_after, first_fork}

-- the findings have a right edition of this number that follows that one
abbrev pub Has : List EditionFinding → ℕ → ℕ → Type 0
Has [] n k = ⊥
Has (x ∷ xs) n k = ((x.number ≡ n) × (followed x.note ≡ Some k)) ⊎ Has xs n k

abbrev pub AreFrom : ℕ → List EditionFinding → Type 0
AreFrom last [] = Unit {0}
AreFrom last (x ∷ xs) = (last ≤ x.number) × AreFrom last xs

abbrev pub Ascend : List EditionFinding → Type 0
Ascend [] = Unit {0}
Ascend (x ∷ xs) = AreFrom x.number xs × Ascend xs

-- parts of a search that finds none

neither : (a b : Option Fork) → option_or a b ≡ None → (a ≡ None) × (b ≡ None)
neither None b e = (refl, e)
neither (Some fork) b e = absurd cc

not_below : (b : Bool) (fork : Fork) → cond b (Some fork) None ≡ None → b ≡ false
not_below true fork e = absurd cc
not_below false fork e = refl

at_least : (last n k : ℕ) → fork_after last n (Some k) ≡ None → last ≤ k
at_least last n k e = let not = not_below (nat_lt k last) (record { number = n; follows = k; between = last }) e in grind (arith, nat_tests, not)

follows_least : (last n k : ℕ) (o : Option ℕ) → o ≡ Some k → fork_after last n o ≡ None → last ≤ k
follows_least last n k o is e = at_least last n k (subst (λ (o : Option ℕ). fork_after last n o ≡ None) is e)

-- the last one rises

rises : (last n : ℕ) (o : Option ℕ) → last ≤ n → last ≤ last_after last n o
rises last n None le = omega arith
rises last n (Some k) le = le

from_after : (last n : ℕ) (o : Option ℕ) (xs : List EditionFinding) → AreFrom last xs → AreFrom n xs → AreFrom (last_after last n o) xs
from_after last n None xs a b = a
from_after last n (Some k) xs a b = b

from_has : (m : ℕ) (xs : List EditionFinding) (n k : ℕ) → AreFrom m xs → Has xs n k → m ≤ n
from_has m [] n k from has = absurd has
from_has m (x ∷ xs) n k from (inl one) = omega (arith, from.0, one.0)
from_has m (x ∷ xs) n k from (inr more) = from_has m xs n k from.1 more

-- what follows isn't below the last one

all_least : (last : ℕ) (xs : List EditionFinding) (n k : ℕ) → first_fork last xs ≡ None → Ascend xs → AreFrom last xs → Has xs n k → last ≤ k
all_least last [] n k none ascend from has = absurd has
all_least last (x ∷ xs) n k none ascend from (inl one) =
    follows_least last x.number k (followed x.note) one.1 (neither (fork_after last x.number (followed x.note)) (first_fork (last_after last x.number (followed x.note)) xs) none).0
all_least last (x ∷ xs) n k none ascend from (inr more) =
    let next = last_after last x.number (followed x.note) in
    let later = all_least next xs n k (neither (fork_after last x.number (followed x.note)) (first_fork next xs) none).1 ascend.1
    (from_after last x.number (followed x.note) xs from.1 ascend.0) more in
    let up = rises last x.number (followed x.note) from.0 in
    omega (arith, up, later)

pub straight : (last : ℕ) (xs : List EditionFinding) (m j n k : ℕ) → first_fork last xs ≡ None → Ascend xs → AreFrom last xs → Has xs m j → Has xs n k → m < n → m ≤ k
straight last [] m j n k none ascend from one two below = absurd one
straight last (x ∷ xs) m j n k none ascend from (inl one) (inl two) below = absurd (omega (arith, one.0, two.0, below))
straight last (x ∷ xs) m j n k none ascend from (inl one) (inr two) below =
    let rest = (neither (fork_after last x.number (followed x.note)) (first_fork (last_after last x.number (followed x.note)) xs) none).1 in
    let is : last_after last x.number (followed x.note) ≡ x.number = subst (λ (o : Option ℕ). last_after last x.number o ≡ x.number) (sym one.1) refl in
    let least = all_least x.number xs n k (subst (λ (l : ℕ). first_fork l xs ≡ None) is rest) ascend.1 ascend.0 two in
    omega (arith, one.0, least)
straight last (x ∷ xs) m j n k none ascend from (inr one) (inl two) below =
    let least = from_has x.number xs m j ascend.0 one in
    absurd (omega (arith, two.0, below, least))
straight last (x ∷ xs) m j n k none ascend from (inr one) (inr two) below =
    straight (last_after last x.number (followed x.note)) xs m j n k
    (neither (fork_after last x.number (followed x.note)) (first_fork (last_after last x.number (followed x.note)) xs) none).1
    ascend.1 (from_after last x.number (followed x.note) xs from.1 ascend.0) one two below

pub from_zero : (xs : List EditionFinding) → AreFrom 0 xs
from_zero [] = tt
from_zero (x ∷ xs) = (omega arith, from_zero xs)

-- the findings ascend if their numbers do

above_first : (n : ℕ) (ns : List ℕ) → IsNonDecreasing (n ∷ ns) → All (λ m. n ≤ m) (n ∷ ns)
above_first n ns sorted = λ k d below. sorted 0 k d (omega arith) below

from_all : (n : ℕ) (xs : List EditionFinding) → All (λ m. n ≤ m) (map (λ x. x.number) xs) → AreFrom n xs
from_all n [] all = tt
from_all n (x ∷ xs) all =
    (All-head (λ m. n ≤ m) x.number (map (λ x. x.number) xs) all, from_all n xs (All-tail (λ m. n ≤ m) x.number (map (λ x. x.number) xs) all))

pub ascending : (xs : List EditionFinding) → IsNonDecreasing (map (λ x. x.number) xs) → Ascend xs
ascending [] sorted = tt
ascending (x ∷ xs) sorted = (from_all x.number xs (All-tail (λ m. x.number ≤ m) x.number (map (λ x. x.number) xs) (above_first x.number (map (λ x. x.number) xs) sorted)), ascending xs (IsNonDecreasingBy-drop (λ n. n) 1 (x.number ∷ map (λ x. x.number) xs) sorted))
