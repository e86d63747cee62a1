-- A list that has the values of a function, and one more.
use Rattle.std.proofs.Common.{◌≡◌, ℕ, zero, suc, ◌<◌, List, [], ◌∷◌, ◌++◌, length, Some, refl, arith}
use Rattle.std.specs.Prelude.{slice_get}

pub one_more : {X : Type 0} (f : ℕ → X) (xs : List X) → ((k : ℕ) → k < length xs → slice_get xs k ≡ Some (f k))
    → (k : ℕ) → k < length (xs ++ f (length xs) ∷ []) → slice_get (xs ++ f (length xs) ∷ []) k ≡ Some (f k)
one_more f [] known zero room = refl
one_more f [] known (suc k) room = absurd (omega arith)
one_more f (y ∷ ys) known zero room = known zero (omega arith)
one_more f (y ∷ ys) known (suc k) room = one_more (λ i. f (suc i)) ys (λ i below. known (suc i) (omega arith)) k (omega arith)
