-- The characters of a text in quotes, one by one.
use Rattle.std.proofs.Common.{◌≡◌, ℕ, zero, suc, ◌-◌, List, ◌∷◌, ◌++◌, append_assoc, arith, refl}
use Rattle.lint_words.specs.Pieces.{escaped, escaped_up_to}

-- one more character
pub one_more : (out more all cs : List ℕ) (left c : ℕ) → (left ≡ 0 → ⊥) → more ≡ out ++ escaped c →
    out ++ escaped_up_to left (c ∷ cs) ≡ all → more ++ escaped_up_to (left - 1) cs ≡ all
one_more out more all cs zero c some added so_far = absurd (some refl)
one_more out more all cs (suc left) c some added so_far =
    let less : suc left - 1 ≡ left = omega arith in
    rw (less, added, append_assoc) so_far
