-- The text of guessed routes.
use Rattle.std.proofs.Common.{◌≡◌, ◌∙◌, ◌<◌, ◌≤◌, ◌+◌, ◌-◌, ◌==◌, ℕ, Bool, suc, true, false, not, if◌then◌else◌, List, ◌++◌, Some, None, length, refl, sym, ap, arith, append_assoc}
use Rattle.std.proofs.lemmas.Bool.Decides.{nat_tests}
use Rattle.std.proofs.lemmas.List.{append-nil, length-append}
use Rattle.page_ids.specs.Ids.{Id}
use Rattle.screens.specs.declared.look.Look.{Look}
use Rattle.screen_files.specs.Loops.{guessed}
use Rattle.screen_files.specs.Routes.{is_guessed, page_by, pair_text, routes_from}

-- An option by a test.

some_if : (b : Bool) (v x : ℕ) → (if b then Some v else None) ≡ Some x → (b ≡ true) × (v ≡ x)
some_if true v x is = (refl, search)
some_if false v x is = absurd cc

none_if : (b : Bool) (v : ℕ) → (if b then Some v else None) ≡ None → b ≡ false
none_if true v is = absurd cc
none_if false v is = refl

-- The routes of one digit more.

module _ (known : List Id) (page : ℕ) (all : List (List Look)) (first : Bool) where
  pub guess_here : (out : List ℕ) (d to : ℕ) → d < 10 → guessed known page all d ≡ Some to
      → (out ++ pair_text first d to) ++ routes_from known page all false (10 - (d + 1)) (d + 1)
      ≡ out ++ routes_from known page all first (10 - d) d
  unfolding routes_from
  guess_here out d to few is =
      let left : 10 - d ≡ suc (10 - (d + 1)) = omega arith in
      let g = some_if (is_guessed known page all d) (page_by page d) to is in
      ap (λ (n : ℕ). (out ++ pair_text first d n) ++ routes_from known page all false (10 - (d + 1)) (d + 1)) (sym g.1)
      ∙ append_assoc out (pair_text first d (page_by page d)) (routes_from known page all false (10 - (d + 1)) (d + 1))
      ∙ sym (ap (λ (n : ℕ). out ++ routes_from known page all first n d) left ∙ rw g.0 refl)

  pub guess_past : (d : ℕ) → d < 10 → guessed known page all d ≡ None
      → routes_from known page all first (10 - (d + 1)) (d + 1) ≡ routes_from known page all first (10 - d) d
  unfolding routes_from
  guess_past d few is =
      let left : 10 - d ≡ suc (10 - (d + 1)) = omega arith in
      let passed = none_if (is_guessed known page all d) (page_by page d) is in
      sym (ap (λ (n : ℕ). routes_from known page all first n d) left ∙ rw passed refl)

  pub no_more_guesses : (out : List ℕ) (d : ℕ) → 10 ≤ d → out ++ routes_from known page all first (10 - d) d ≡ out
  unfolding routes_from
  no_more_guesses out d past =
      let none : 10 - d ≡ 0 = omega arith in
      ap (λ (n : ℕ). out ++ routes_from known page all first n d) none ∙ append-nil out

-- Whether there are some.

pair_is_long : (first : Bool) (d to : ℕ) → 0 < length (pair_text first d to)
pair_is_long true d to = omega arith
pair_is_long false d to = omega arith

pub some_more : (before out : List ℕ) (first : Bool) (d to : ℕ) → length before ≤ length out
    → false ≡ (length (out ++ pair_text first d to) == length before)
some_more before out first d to longer =
    grind (arith, nat_tests, pair_is_long first d to, length-append out (pair_text first d to))

pub still_longer : (before out : List ℕ) (first : Bool) (d to : ℕ) → length before ≤ length out
    → length before ≤ length (out ++ pair_text first d to)
still_longer before out first d to longer = grind (arith, length-append out (pair_text first d to))

pub some_by_length : (before out routes : List ℕ) → out ≡ before ++ routes
    → not (length out == length before) ≡ not (length routes == 0)
some_by_length before out routes is =
    let long : length out ≡ length before + length routes = ap length is ∙ length-append before routes in
    grind (arith, nat_tests)
