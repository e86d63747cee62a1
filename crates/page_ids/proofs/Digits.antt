-- What holds of each digit holds of each byte of a number.
use Rattle.std.proofs.Common.{◌≡◌, ℕ, zero, suc, ◌+◌, ◌/◌, ◌%◌, ◌<◌, Bool, true, false, List, [], ◌∷◌, ◌==◌, nat_lt, refl, arith, decimal}
use Rattle.std.specs.List.{list_all}
use Rattle.std.specs.Fmt.{digits, digits_onto, digit_glyph}
use Rattle.std.proofs.lemmas.Bool.{cond_both}
use Rattle.std.proofs.lemmas.Bool.Decides.{nat_tests}

-- a test that the digits 0 to 9 pass (48 is `0`)
abbrev pub PassesDigits : (ℕ → Bool) → Type 0
PassesDigits p = (d : ℕ) → d < 10 → p (48 + d) ≡ true

one_more : (p : ℕ → Bool) → PassesDigits p → (d : ℕ) (acc : List ℕ) → d < 10 → list_all p acc ≡ true → list_all p (digit_glyph false d ∷ acc) ≡ true
one_more p passes d acc lt h =
    let small : nat_lt d 10 ≡ true = grind (arith, nat_tests) in
    rw (small, passes d lt, h) refl

all_onto : (p : ℕ → Bool) → PassesDigits p → (k n : ℕ) (acc : List ℕ) → list_all p acc ≡ true → list_all p (digits_onto k 10 false n acc) ≡ true
all_onto p passes zero n acc h = h
all_onto p passes (suc k) n acc h =
    let more = one_more p passes (n % 10) acc (omega arith) h in
    cond_both (n / 10 == 0) _ _ (λ (bs : List ℕ). list_all p bs ≡ true) (λ e. more) (λ e. all_onto p passes k (n / 10) (digit_glyph false (n % 10) ∷ acc) more)

pub all_decimal : (p : ℕ → Bool) → PassesDigits p → (n : ℕ) → list_all p (decimal n) ≡ true
unfolding digits
all_decimal p passes n = all_onto p passes 64 n [] refl
