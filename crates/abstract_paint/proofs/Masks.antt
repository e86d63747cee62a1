-- Masks of the lanes that are plain, or aren't.
use Rattle.std.proofs.Common.{◌≡◌, ℕ, ◌+◌, ◌-◌, ◌*◌, ◌<◌, ◌%◌, ◌^◌, ◌↔◌, ltb, leb, Bool, true, false, not, ◌&&◌, cond, List, [], ◌∷◌, map, length, replicate, refl, sym, ap, ap₂, ◌∙◌, arith, IsTrue, IsBitSet, EachIndex, slice_index, Fits, w32, subst}
use Rattle.std.specs.Int.{bit_at}
use Rattle.std.proofs.lemmas.Simd.{zip2_splat, zip2_splat_left, zip2_of_maps, mask_l-mod, mask_l-lt, bit_mask_l}
use Rattle.std.proofs.lemmas.Nat.{pow_pos}
use Rattle.std.proofs.lemmas.Nat.Bits.{and_pow}
use Rattle.std.proofs.lemmas.List.{length-map, get_or-map}
use Rattle.std.proofs.Math.Nat.{pow-succ'}
use lib.Bits.{bit_and}
use lib.Lanes.{zip2, mask_l, top}
use Rattle.abstract_paint.specs.Plain.{is_plain}
use Rattle.abstract_paint.specs.Loops.{is_other}

abbrev below : ℕ → ℕ → ℕ
below a b = cond (ltb a b) 255 0

abbrev at_most : ℕ → ℕ → ℕ
at_most a b = cond (leb a b) 255 0

top_both : (a b : Bool) → top 7 (bit_and (cond a 255 0) (cond b 255 0)) ≡ (a && b)
top_both true true = refl
top_both true false = refl
top_both false true = refl
top_both false false = refl

plain_tops : (v : List ℕ) → map (top 7) (map (λ x. bit_and (at_most 32 x) (below x 128)) v) ≡ map is_plain v
plain_tops [] = refl
plain_tops (x ∷ xs) = ap₂ (λ a b. a ∷ b) (top_both (leb 32 x) (ltb x 128)) (plain_tops xs)

-- two comparisons of all lanes, joined
pub plain_lanes : (v : List ℕ) → length v ≡ 32 → mask_l (map (top 7) (zip2 bit_and (zip2 at_most (replicate 32 32) v) (zip2 below v (replicate 32 128)))) % 2 ^ 64 ≡ mask_l (map is_plain v)
plain_lanes v long =
    let both = zip2_of_maps bit_and (at_most 32) (λ x. below x 128) v (zip2_splat_left at_most 32 32 v long) (zip2_splat below v 32 128 long) in
    ap (λ l. mask_l l % 2 ^ 64) (ap (map (top 7)) both ∙ plain_tops v) ∙ mask_l-mod (map is_plain v) 64 (omega (arith, length-map v is_plain))

pub plain_fits : (v : List ℕ) → length v ≡ 32 → Fits w32 (mask_l (map is_plain v))
plain_fits v long = record { fits = subst (λ (n : ℕ). mask_l (map is_plain v) < 2 ^ n) (length-map v is_plain ∙ long) (mask_l-lt (map is_plain v)) }

-- bit i is set if and only if lane i is plain
bit_by : (n i : ℕ) (r : Bool) → bit_at n i ≡ cond r 1 0 → IsBitSet n i ↔ IsTrue r
bit_by n i true e =
    let set : bit_and n (2 ^ i) ≡ 1 * 2 ^ i = and_pow n i ∙ ap (λ (b : ℕ). b * 2 ^ i) e in
    let some = pow_pos i in
    ((λ h. refl), (λ h none. omega arith))
bit_by n i false e =
    let clear : bit_and n (2 ^ i) ≡ 0 * 2 ^ i = and_pow n i ∙ ap (λ (b : ℕ). b * 2 ^ i) e in
    ((λ h. absurd (h (omega arith))), (λ h. cc))

pub plain_bits : (v : List ℕ) → EachIndex v (λ i. IsBitSet (mask_l (map is_plain v)) i ↔ IsTrue (is_plain (slice_index v i)))
plain_bits v i lt = bit_by (mask_l (map is_plain v)) i (is_plain (slice_index v i)) (bit_mask_l (map is_plain v) i ∙ ap (λ (b : Bool). cond b 1 0) (get_or-map is_plain v i 0 false lt))

-- the two masks have all bits between them
bit_or_other : (b : Bool) (m o n : ℕ) → m + o + 1 ≡ n → cond b 1 0 + 2 * m + (cond (not b) 1 0 + 2 * o) + 1 ≡ 2 * n
bit_or_other true m o n e = omega arith
bit_or_other false m o n e = omega arith

masks_add : (v : List ℕ) → mask_l (map is_plain v) + mask_l (map is_other v) + 1 ≡ 2 ^ length v
masks_add [] = refl
masks_add (x ∷ xs) = bit_or_other (is_plain x) (mask_l (map is_plain xs)) (mask_l (map is_other xs)) (2 ^ length xs) (masks_add xs) ∙ sym (pow-succ' 2 (length xs))

pub other_lanes : (v : List ℕ) → length v ≡ 32 → 4294967295 - mask_l (map is_plain v) ≡ mask_l (map is_other v)
other_lanes v long = let all : mask_l (map is_plain v) + mask_l (map is_other v) + 1 ≡ 2 ^ 32 = masks_add v ∙ ap (λ (n : ℕ). 2 ^ n) long in omega arith
