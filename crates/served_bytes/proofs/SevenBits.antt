-- Seven bits do for every byte.
use Rattle.std.proofs.Common.{◌≡◌, ℕ, ◌+◌, ◌-◌, ◌<◌, arith, refl, ap, sym, ◌∙◌, Bool, true, false, List, [], ◌∷◌, ◌++◌, Some, nat_lt, nat_le}
use Rattle.std.proofs.lemmas.Bool.Decides.{nat_tests}
use Rattle.std.specs.List.{AllByRecursion}
use Rattle.terminal_codes.specs.Screen.{Screen, code_of, with_code, byte_step, run}
use Rattle.terminal_codes.proofs.Runs.{run_append}
use Rattle.served_bytes.specs.Seven.{seven, in_seven, SevenBitsDo}

abbrev pending_at : Screen → Bool → Screen
pending_at t q = record { cells = t.cells; at = t.at; pending = q; visible = t.visible }

-- a byte that writes a code, whatever was pending
step_writes : (t : Screen) (b code : ℕ) → nat_lt b 32 ≡ false → code_of t.pending b ≡ Some code → byte_step t b ≡ with_code t (Some code)
step_writes t b code low e =
    let step : byte_step t b ≡ with_code t (code_of t.pending b) = rw low refl in
    step ∙ ap (with_code t) e

attribute : (b : ℕ) → nat_lt b 128 ≡ false → nat_lt b 160 ≡ true → code_of true (b - 64) ≡ Some b
attribute b e f =
    let low : nat_lt (b - 64) 32 ≡ false = grind (arith, nat_tests) in
    let seven_bits : nat_lt (b - 64) 128 ≡ true = grind (arith, nat_tests) in
    let from : nat_le 64 (b - 64) ≡ true = grind (arith, nat_tests) in
    let to : nat_lt (b - 64) 96 ≡ true = grind (arith, nat_tests) in
    let back : b - 64 + 64 ≡ b = grind (arith, nat_tests) in
    rw (low, seven_bits, from, to) (ap (λ (k : ℕ). Some k) back)

itself : (q : Bool) (b : ℕ) → nat_lt b 128 ≡ false → nat_lt b 160 ≡ true → code_of q b ≡ Some b
itself q b e f =
    let low : nat_lt b 32 ≡ false = grind (arith, nat_tests) in
    rw (low, e, f) refl

less : (q : Bool) (b : ℕ) → nat_lt b 128 ≡ false → nat_lt b 160 ≡ false → code_of q b ≡ Some (b - 128)
less q b e f =
    let low : nat_lt b 32 ≡ false = grind (arith, nat_tests) in
    rw (low, e, f) refl

plain : (b : ℕ) → nat_lt b 160 ≡ false → nat_lt b 256 ≡ true → code_of false (b - 128) ≡ Some (b - 128)
plain b f lt =
    let low : nat_lt (b - 128) 32 ≡ false = grind (arith, nat_tests) in
    let high : nat_lt (b - 128) 128 ≡ true = grind (arith, nat_tests) in
    rw (low, high) refl

by_kind : (t : Screen) (b : ℕ) (low mid byte : Bool) → nat_lt b 128 ≡ low → nat_lt b 160 ≡ mid → nat_lt b 256 ≡ byte → run t (seven b) ≡ byte_step t b
by_kind t b true mid byte e f g = let is : seven b ≡ b ∷ [] = rw e refl in ap (run t) is
by_kind t b false true byte e f g =
    let is : seven b ≡ 27 ∷ (b - 64) ∷ [] = rw (e, f) refl in
    let low : nat_lt (b - 64) 32 ≡ false = grind (arith, nat_tests) in
    let high : nat_lt b 32 ≡ false = grind (arith, nat_tests) in
    ap (run t) is ∙ (step_writes (pending_at t true) (b - 64) b low (attribute b e f) ∙ sym (step_writes t b b high (itself t.pending b e f)))
by_kind t b false false true e f g =
    let is : seven b ≡ 0 ∷ (b - 128) ∷ [] = rw (e, f, g) refl in
    let low : nat_lt (b - 128) 32 ≡ false = grind (arith, nat_tests) in
    let high : nat_lt b 32 ≡ false = grind (arith, nat_tests) in
    ap (run t) is ∙ (step_writes (pending_at t false) (b - 128) (b - 128) low (plain b f g) ∙ sym (step_writes t b (b - 128) high (less t.pending b e f)))
by_kind t b false false false e f g = let is : seven b ≡ b ∷ [] = rw (e, f, g) refl in ap (run t) is

pub same_in_seven : (bytes : List ℕ) (t : Screen) → run t (in_seven bytes) ≡ run t bytes
same_in_seven [] t = refl
same_in_seven (b ∷ bs) t =
    run_append t (seven b) (in_seven bs)
    ∙ (ap (λ (u : Screen). run u (in_seven bs)) (by_kind t b (nat_lt b 128) (nat_lt b 160) (nat_lt b 256) refl refl refl) ∙ same_in_seven bs (byte_step t b))

low_by : (b : ℕ) (rest : List ℕ) → b < 256 → (low mid byte : Bool) → nat_lt b 128 ≡ low → nat_lt b 160 ≡ mid → nat_lt b 256 ≡ byte → AllByRecursion (λ k. k < 128) rest → AllByRecursion (λ k. k < 128) (seven b ++ rest)
low_by b rest lt true mid byte e f g h = let small : b < 128 = grind (arith, nat_tests) in rw e (small, h)
low_by b rest lt false true byte e f g h = let small : b - 64 < 128 = grind (arith, nat_tests) in rw (e, f) (omega arith, (small, h))
low_by b rest lt false false true e f g h = let small : b - 128 < 128 = grind (arith, nat_tests) in rw (e, f, g) (omega arith, (small, h))
low_by b rest lt false false false e f g h = absurd (grind (arith, nat_tests))

low : (bytes : List ℕ) → AllByRecursion (λ b. b < 256) bytes → AllByRecursion (λ b. b < 128) (in_seven bytes)
low [] h = tt
low (b ∷ bs) h = low_by b (in_seven bs) h.0 (nat_lt b 128) (nat_lt b 160) (nat_lt b 256) refl refl refl (low bs h.1)

pub seven_bits_do : SevenBitsDo
seven_bits_do bytes = record { same = same_in_seven bytes; low = low bytes }
