-- A binary search.
use Rattle.std.proofs.Common.{refl, ◌≡◌, ℕ, zero, suc, ◌+◌, ◌-◌, ◌/◌, ◌*◌, true, false, ltb, ◌^◌, ◌<◌, ◌≤◌, List, length, get_or, arith, subst, ap, inl, inr}
use Rattle.std.proofs.Math.Nat.{pow-le-pow_right}
use Rattle.std.proofs.lemmas.Bool.{cases_lt}
use Rattle.std.proofs.lemmas.Bool.Decides.{nat_tests}
use Rattle.std.proofs.lemmas.Option.{slice_get_within, get_or_from_slice_get}
use Rattle.std.specs.Prelude.{slice_get, Some}
use Rattle.std.proofs.lemmas.Nat.{mul-le, pow-add}
use Rattle.std.specs.declared.cmp.Ordering.{Ordering}
use Rattle.std.specs.declared.cmp.Ordering.TheVariants.{Less, Equal, Greater}
use Rattle.frame_records.specs.Bases.{MayFollow, IsSearchable, after_middle, compared_between}

pub halved : (g h c : ℕ) → 2 * h ≤ g → g * 2 ^ c ≤ 65535 → h * 2 ^ (c + 1) ≤ 65535
halved g h c le small =
    let e : 2 ^ (c + 1) ≡ 2 ^ c * 2 ^ 1 = pow-add 2 c 1 in
    rw e (by_power (2 ^ c) small) where
      by_power : (k : ℕ) → g * k ≤ 65535 → h * (k * 2 ^ 1) ≤ 65535
      by_power k small = omega (arith, mul-le (2 * h) k g k le (omega arith))

pub few_asked : (g c : ℕ) → 0 < g → g * 2 ^ c ≤ 65535 → c < 16
few_asked g c some small = elim (cases_lt c 16) [ inl lt ↦ lt | inr ge ↦ absurd (omega (arith, big ge)) ] where
  big : 16 ≤ c → 1 * 2 ^ 16 ≤ g * 2 ^ c
  big ge = mul-le 1 (2 ^ 16) g (2 ^ c) (omega arith) (pow-le-pow_right (omega arith) ge)

-- what is before a Less is Less, and what is after a Greater is Greater
pub before_less : (a : Ordering) → MayFollow a Less → a ≡ Less
before_less Less h = refl
before_less Equal h = absurd h
before_less Greater h = absurd h

pub after_greater : (b : Ordering) → MayFollow Greater b → b ≡ Greater
after_greater Less h = absurd h
after_greater Equal h = absurd h
after_greater Greater h = refl

pub less_to : (xs : List Ordering) (m i : ℕ) → IsSearchable xs → slice_get xs m ≡ Some Less → i < m + 1 → get_or xs i Less ≡ Less
less_to xs m i up e lt =
    let at : get_or xs m Less ≡ Less = get_or_from_slice_get xs m Less Less e in
    elim (cases_lt i m) [
      | inl before ↦ before_less (get_or xs i Less) (subst (λ (o : Ordering). MayFollow (get_or xs i Less) o) at (up i m before (slice_get_within xs m Less e)))
      | inr ge ↦ let same : i ≡ m = omega arith in rw same at
    ]

pub greater_from : (xs : List Ordering) (m i : ℕ) → IsSearchable xs → slice_get xs m ≡ Some Greater → m ≤ i → i < length xs → get_or xs i Less ≡ Greater
greater_from xs m i up e le lt =
    let at : get_or xs m Less ≡ Greater = get_or_from_slice_get xs m Greater Less e in
    elim (cases_lt m i) [
      | inl before ↦ after_greater (get_or xs i Less) (subst (λ (o : Ordering). MayFollow o (get_or xs i Less)) at (up m i before lt))
      | inr ge ↦ let same : i ≡ m = omega arith in rw same at
    ]

pub no_equal : (xs : List Ordering) (n : ℕ) → ((i : ℕ) → i < n → get_or xs i Less ≡ Less) → ((i : ℕ) → n ≤ i → i < length xs → get_or xs i Less ≡ Greater) → (i : ℕ) → slice_get xs i ≡ Some Equal → ⊥
no_equal xs n below above i e =
    let at : get_or xs i Less ≡ Equal = get_or_from_slice_get xs i Equal Less e in
    elim (cases_lt i n) [
      | inl lt ↦ let l = below i lt in cc
      | inr ge ↦ let g = above i ge (slice_get_within xs i Equal e) in cc
    ]

-- between two places of which the first isn't below the second nothing is compared
pub none_between : (fuel : ℕ) (xs : List Ordering) (low high : ℕ) → high ≤ low → compared_between fuel xs low high ≡ 0
none_between zero xs low high ge = refl
none_between (suc fuel) xs low high ge = let is : ltb low high ≡ false = grind (arith, nat_tests) in rw is refl

between : (fuel : ℕ) (xs : List Ordering) (low high : ℕ) (o : Ordering) → low < high → get_or xs (low + (high - low) / 2) Less ≡ o → compared_between (suc fuel) xs low high ≡ 1 + after_middle o (compared_between fuel xs (low + (high - low) / 2 + 1) high) (compared_between fuel xs low (low + (high - low) / 2))
between fuel xs low high o lt at = let is : ltb low high ≡ true = grind (arith, nat_tests) in rw (is, at) refl

-- one comparison more, of the middle one, and the number in all stays
pub compared_more : (xs : List Ordering) (low high count all : ℕ) (o : Ordering) → low < high → count + (high - low) ≤ length xs → slice_get xs (low + (high - low) / 2) ≡ Some o → count + compared_between (length xs - count) xs low high ≡ all → count + 1 + after_middle o (compared_between (length xs - (count + 1)) xs (low + (high - low) / 2 + 1) high) (compared_between (length xs - (count + 1)) xs low (low + (high - low) / 2)) ≡ all
compared_more xs low high count all o lt room e is =
    let fuel : length xs - count ≡ suc (length xs - (count + 1)) = omega (arith, lt, room) in
    let step = between (length xs - (count + 1)) xs low high o lt (get_or_from_slice_get xs (low + (high - low) / 2) o Less e) in
    omega (arith, is, step, ap (λ (n : ℕ). compared_between n xs low high) fuel)
