-- Characters and their marks, one by one.
use Rattle.std.proofs.Common.{◌≡◌, ℕ, ◌+◌, List, [], ◌∷◌, ◌++◌, length, replicate, chars, ap, ◌∙◌, append_assoc, arith}
use Rattle.std.proofs.lemmas.List.{replicate-append-replicate}
use Rattle.std.proofs.lemmas.Str.{chars-nil}
use Rattle.std.specs.List.{flat_map}

-- one more of the same
pub one_more : (old : List ℕ) (n a : ℕ) → (old ++ replicate n a) ++ (a ∷ []) ≡ old ++ replicate (n + 1) a
one_more old n a = append_assoc old (replicate n a) (a ∷ []) ∙ ap (λ (x : List ℕ). old ++ x) (replicate-append-replicate n 1 a)

pub empty : (bs : List ℕ) → length bs ≡ 0 → chars bs ≡ []
empty [] e = chars-nil
empty (b ∷ bs) e = absurd (omega (arith, e))

-- one more character is written, by this function
pub one_written : (f : ℕ → List ℕ) (out more all cs : List ℕ) (c : ℕ) → more ≡ out ++ f c → out ++ flat_map f (c ∷ cs) ≡ all
    → more ++ flat_map f cs ≡ all
one_written f out more all cs c added so_far =
    ap (λ (xs : List ℕ). xs ++ flat_map f cs) added ∙ (append_assoc out (f c) (flat_map f cs) ∙ so_far)
