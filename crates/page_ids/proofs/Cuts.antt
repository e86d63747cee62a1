-- A text and its parts.
use Rattle.std.proofs.Common.{◌≡◌, ℕ, ◌+◌, ◌-◌, ◌<◌, ◌≤◌, List, [], ◌∷◌, ◌++◌, length, get_or, take, drop, false, refl, sym, ap, ◌∙◌, arith, All, drop-cons, length-drop}
use native.Mathlib.Numerals.{unary_clauses}
use Rattle.std.specs.Prelude.{◌==◌}
use Rattle.std.proofs.lemmas.Bool.{eq-eqb}
use Rattle.std.proofs.lemmas.List.{take_all, take-append-drop}
use Rattle.std.proofs.lemmas.List.Splits.{slice_split_at, slice_split_none}
use Rattle.page_ids.specs.Parts.{parts_of}

pub cut_at : (c : ℕ) (text : List ℕ) (i : ℕ) → i < length text → get_or text i 0 ≡ c → All (λ b. (b == c) ≡ false) (take i text)
    → parts_of c text ≡ take i text ∷ parts_of c (take (length text - (i + 1)) (drop (i + 1) text))
cut_at c text i lt e none =
    let whole : take (length text - (i + 1)) (drop (i + 1) text) ≡ drop (i + 1) text = take_all _ _ (omega (arith, length-drop (i + 1) text)) in
    let at_place : drop i text ≡ get_or text i 0 ∷ drop (i + 1) text = simp unary_clauses (drop-cons text i 0 lt) in
    let seam : text ≡ take i text ++ c ∷ drop (i + 1) text = sym (take-append-drop i text) ∙ ap (λ (r : List ℕ). take i text ++ r) (at_place ∙ ap (λ (x : ℕ). x ∷ drop (i + 1) text) e) in
    rw whole (ap (parts_of c) seam ∙ slice_split_at (λ b. b == c) (take i text) c (drop (i + 1) text) none (eq-eqb c c refl))

pub uncut : (c : ℕ) (text : List ℕ) (i : ℕ) → length text ≤ i → All (λ b. (b == c) ≡ false) (take i text) → parts_of c text ≡ text ∷ []
uncut c text i le none = slice_split_none (λ b. b == c) text (rw (sym (take_all i text le)) none)
