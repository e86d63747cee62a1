-- A run of plain bytes, seen 32 at a time through the mask of the others.
use Rattle.std.proofs.Common.{◌≡◌, ℕ, ◌+◌, ◌-◌, ◌*◌, ◌<◌, ◌≤◌, Bool, true, false, not, cond, eqb, List, [], ◌∷◌, map, length, take, drop, refl, sym, ap, ap₂, ◌∙◌, arith}
use Rattle.std.proofs.lemmas.Simd.{chunk-drop, length-chunk, leading_from_mask_l, trailing_mask_l}
use Rattle.std.proofs.lemmas.List.{length-drop, take_all}
use Rattle.std.proofs.lemmas.List.Folds.{prefix_len-append}
use Rattle.std.proofs.lemmas.List.Sums.{prefix_len-le-length}
use Rattle.std.proofs.lemmas.Bool.{eq-eqb, ne_eqb}
use Rattle.std.specs.List.{prefix_len}
use lib.Lanes.{chunk, mask_l}
use lib.Count.{count_trailing_zeros}
use Rattle.abstract_paint.specs.Plain.{is_plain, plain_len}
use Rattle.abstract_paint.specs.Loops.{is_other}

not-not : (b : Bool) → b ≡ not (not b)
not-not true = refl
not-not false = refl

-- the plain ones are those that aren't others
same_run : (xs : List ℕ) → plain_len xs ≡ prefix_len (λ x. not (is_other x)) xs
same_run [] = refl
same_run (x ∷ xs) = ap₂ (λ b n. cond b (1 + n) 0) (not-not (is_plain x)) (same_run xs)

none_other : (b : Bool) (n l m : ℕ) → n ≤ l → cond b (1 + n) 0 ≡ 1 + l → (n ≡ l → m ≡ 0) → cond (not b) 1 0 + 2 * m ≡ 0
none_other true n l m le e ih = let z = ih (omega arith) in omega arith
none_other false n l m le e ih = let no : ⊥ = omega arith in absurd no

all_plain : (xs : List ℕ) → plain_len xs ≡ length xs → mask_l (map is_other xs) ≡ 0
all_plain [] e = refl
all_plain (x ∷ xs) e = none_other (is_plain x) _ (length xs) _ (prefix_len-le-length is_plain xs) (omega arith) (all_plain xs)

split : (d : List ℕ) (i n : ℕ) → plain_len (drop i d) ≡ cond (eqb (plain_len (chunk i n d)) (length (chunk i n d))) (length (chunk i n d) + plain_len (drop (i + n) d)) (plain_len (chunk i n d))
split d i n = ap plain_len (chunk-drop i n d) ∙ prefix_len-append is_plain (chunk i n d) (drop (i + n) d)

-- no other among them: the run goes on after them
pub run_through : (d : List ℕ) (i n : ℕ) → i + n ≤ length d → mask_l (map is_other (chunk i n d)) ≡ 0 → plain_len (drop i d) ≡ n + plain_len (drop (i + n) d)
run_through d i n room none =
    let c = chunk i n d in
    split d i n ∙ ap (λ b. cond b (length c + plain_len (drop (i + n) d)) (plain_len c)) (eq-eqb _ _ (same_run c ∙ leading_from_mask_l is_other c none))
    ∙ ap (λ k. k + plain_len (drop (i + n) d)) (length-chunk i n d room)

-- else it ends at the first of them
pub run_stops : (d : List ℕ) (i n : ℕ) → i + n ≤ length d → n ≤ 32 → 0 < mask_l (map is_other (chunk i n d)) → plain_len (drop i d) ≡ count_trailing_zeros 32 (mask_l (map is_other (chunk i n d)))
run_stops d i n room short some =
    let c = chunk i n d in
    split d i n ∙ ap (λ b. cond b (length c + plain_len (drop (i + n) d)) (plain_len c)) (ne_eqb _ _ (λ (e : plain_len c ≡ length c). omega (arith, all_plain c e)))
    ∙ same_run c ∙ sym (trailing_mask_l is_other 32 c (omega (arith, length-chunk i n d room)) some)

-- a slice to the end
pub tail_is : (i : ℕ) (xs : List ℕ) → take (length xs - i) (drop i xs) ≡ drop i xs
tail_is i xs = take_all (length xs - i) (drop i xs) (omega (arith, length-drop i xs))
