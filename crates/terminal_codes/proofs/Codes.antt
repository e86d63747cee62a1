-- The codes that cells hold.
use Rattle.std.proofs.Common.{◌≡◌, ℕ, ◌+◌, ◌-◌, ◌<◌, ◌≤◌, arith, Bool, true, false, ◌&&◌, List, [], ◌∷◌, Option, Some, None, ◌==◌, nat_lt, nat_le, replicate, zero, suc}
use Rattle.std.specs.Prelude as P
use Rattle.std.proofs.lemmas.Bool.{cond_both}
use Rattle.std.proofs.lemmas.Bool.Decides.{nat_tests}
use Rattle.std.proofs.lemmas.List.Elements.{All-nil, All-cons, All-head, All-tail, All-set}
use Rattle.terminal_codes.specs.Screen.{Screen, attribute_of, letter_of, high_code_of, code_of, control_step, with_code, byte_step, run}
use Rattle.terminal_codes.specs.Writes.{IsCode}

abbrev Fits : Option ℕ → Type 0
Fits None = Unit {0}
Fits (Some c) = IsCode c

between : (b : ℕ) → (nat_le 64 b && nat_lt b 96) ≡ true → IsCode (b + 64)
between b h =
    let high : 64 ≤ b = grind (arith, nat_tests) in
    let low : b < 96 = grind (arith, nat_tests) in
    (omega arith, omega arith)

fits_attribute : (b : ℕ) → Fits (attribute_of b)
fits_attribute b = cond_both (nat_le 64 b && nat_lt b 96) (Some (b + 64)) None Fits (between b) (λ e. tt)

fits_letter : (pending : Bool) (b : ℕ) → 32 ≤ b → b < 128 → Fits (letter_of pending b)
fits_letter true b ge lt = fits_attribute b
fits_letter false b ge lt = (omega arith, omega arith)

below : (b n : ℕ) → nat_lt b n ≡ true → b < n
below b n h = grind (arith, nat_tests)

from : (b n : ℕ) → nat_lt b n ≡ false → n ≤ b
from b n h = grind (arith, nat_tests)

fits_high : (pending : Bool) (b : ℕ) → 32 ≤ b → b < 256 → Fits (high_code_of pending b)
fits_high pending b ge lt =
    cond_both (nat_lt b 128) _ _ Fits (λ e. fits_letter pending b ge (below b 128 e))
    (λ e. let high : 128 ≤ b = from b 128 e in
    cond_both (nat_lt b 160) (Some b) (Some (b - 128)) Fits (λ f. let low : b < 160 = below b 160 f in (omega arith, low))
    (λ f. let higher : 160 ≤ b = from b 160 f in (omega arith, omega arith)))

fits_code : (pending : Bool) (b : ℕ) → b < 256 → Fits (code_of pending b)
fits_code pending b lt = cond_both (nat_lt b 32) _ _ Fits (λ e. tt) (λ e. fits_high pending b (from b 32 e) lt)

abbrev HoldsCodes : Screen → Type 0
HoldsCodes t = P.All IsCode t.cells

blank : IsCode 32
blank = (omega arith, omega arith)

all_blank : (n : ℕ) → P.All IsCode (replicate n 32)
all_blank zero = All-nil IsCode
all_blank (suc n) = All-cons IsCode 32 (replicate n 32) blank (all_blank n)

codes_of_control : (t : Screen) (b : ℕ) → HoldsCodes t → HoldsCodes (control_step t b)
codes_of_control t b h =
    cond_both (b == 27) _ _ HoldsCodes (λ e. h)
    (λ e. cond_both (b == 12) _ _ HoldsCodes (λ f. all_blank 960)
    (λ f. cond_both (b == 17) _ _ HoldsCodes (λ g. h)
    (λ g. cond_both (b == 20) _ _ HoldsCodes (λ i. h) (λ i. h))))

codes_of_code : (t : Screen) (code : Option ℕ) → Fits code → HoldsCodes t → HoldsCodes (with_code t code)
codes_of_code t None f h = h
codes_of_code t (Some c) f h = All-set IsCode t.cells t.at c f h

codes_of_step : (t : Screen) (b : ℕ) → b < 256 → HoldsCodes t → HoldsCodes (byte_step t b)
codes_of_step t b lt h =
    cond_both (nat_lt b 32) _ _ HoldsCodes (λ e. codes_of_control t b h) (λ e. codes_of_code t (code_of t.pending b) (fits_code t.pending b lt) h)

pub cells_hold_codes : (t : Screen) (bytes : List ℕ) → P.All (λ b. b < 256) bytes → P.All IsCode t.cells → P.All IsCode (run t bytes).cells
cells_hold_codes t [] bound h = h
cells_hold_codes t (b ∷ bs) bound h =
    cells_hold_codes (byte_step t b) bs (All-tail (λ (k : ℕ). k < 256) b bs bound) (codes_of_step t b (All-head (λ (k : ℕ). k < 256) b bs bound) h)
