-- A row without the spaces at its end.
use Rattle.std.proofs.Common.{◌≡◌, ◌∙◌, ap, ◌≢◌, ◌<◌, ◌≤◌, ◌+◌, ◌-◌, ◌==◌, ℕ, zero, suc, true, false, List, [], ◌∷◌, refl, take, length, get_or, arith, add-one}
use Rattle.std.proofs.lemmas.Bool.Decides.{nat_tests}
use Rattle.std.proofs.lemmas.List.Elements.{All-from_get_or, All-head, All-tail}
use Rattle.std.specs.List.{All}
use Rattle.screens.specs.Text.{before, trimmed}
use Rattle.screen_files.specs.Rows.{screen_row, last_row}

abbrev IsSpace : ℕ → Type 0
IsSpace c = c ≡ 32

pub trimmed_none : (row : List ℕ) → All IsSpace row → trimmed row ≡ []
trimmed_none [] all = refl
trimmed_none (c ∷ cs) all =
    let space : c ≡ 32 = All-head IsSpace c cs all in
    rw (trimmed_none cs (All-tail IsSpace c cs all), space) refl

-- a row that goes on keeps its code
keeps : (c : ℕ) (cs : List ℕ) (n : ℕ) → 0 < length cs → before c (take (suc n) cs) ≡ c ∷ take (suc n) cs
keeps c [] n some = absurd (omega (arith, some))
keeps c (d ∷ ds) n some = refl

pub trimmed_at : (row : List ℕ) (i : ℕ) → i < length row → get_or row i 0 ≢ 32
    → ((k : ℕ) → i + 1 ≤ k → k < length row → get_or row k 0 ≡ 32) → trimmed row ≡ take (i + 1) row
trimmed_at [] i inside here after = absurd (omega (arith, inside))
trimmed_at (c ∷ cs) zero inside here after =
    let none = trimmed_none cs (All-from_get_or IsSpace cs 0 (λ k lt. after (suc k) (omega arith) (omega arith))) in
    let other : (c == 32) ≡ false = grind (arith, nat_tests, here) in
    rw (none, other) refl
trimmed_at (c ∷ cs) (suc i) inside here after =
    let rest = trimmed_at cs i (omega arith) here (λ k more lt. after (suc k) (omega arith) (omega arith)) in
    let kept : trimmed cs ≡ take (suc i) cs = rest ∙ ap (λ (n : ℕ). take n cs) (add-one i) in
    rw (kept, add-one (suc i)) (keeps c cs i (omega arith))

-- The last row that isn't blank.

pub last_none : (screen : List ℕ) → last_row screen 0 ≡ 0
unfolding last_row
last_none screen = refl

pub last_step : (screen : List ℕ) (n : ℕ) → 0 < n → length (screen_row screen n) ≡ 0 → last_row screen (n - 1) ≡ last_row screen n
unfolding last_row
last_step screen zero some blank = absurd (omega (arith, some))
last_step screen (suc n) some blank =
    let is : (length (screen_row screen (suc n)) == 0) ≡ true = rw blank refl in
    let less : suc n - 1 ≡ n = omega arith in
    let here : last_row screen n ≡ last_row screen (suc n) = rw is refl in
    ap (λ (m : ℕ). last_row screen m) less ∙ here

pub last_stop : (screen : List ℕ) (n : ℕ) → 0 < n → length (screen_row screen n) ≢ 0 → last_row screen n ≡ n
unfolding last_row
last_stop screen zero some shown = absurd (omega (arith, some))
last_stop screen (suc n) some shown =
    let is : (length (screen_row screen (suc n)) == 0) ≡ false = grind (arith, nat_tests, shown) in
    rw is refl
