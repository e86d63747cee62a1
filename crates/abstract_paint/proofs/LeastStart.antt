-- The first start that is found is the least.
use Rattle.std.proofs.Common.{◌≡◌, ℕ, zero, suc, ◌+◌, ◌*◌, ◌/◌, ◌%◌, ◌==◌, ◌<◌, ◌≤◌, arith, refl, sym, ap, ◌∙◌, subst, get_or, List, Bool, true, false, Option}
use Rattle.std.proofs.Common as std
use Rattle.std.proofs.lemmas.Bool.Decides.{nat_tests}
use Rattle.std.proofs.lemmas.List.FromFn.{length-range_with_len, get_or-range_with_len}
use Rattle.std.specs.Int.{from_bool}
use Rattle.std.specs.List.{find, range_with_len}
use Rattle.std.specs.Option.{MatchOption}
use Rattle.frame_records.specs.declared.frame.Lead.{Lead}
use Rattle.frame_records.proofs.Finds.{first_found, none_found, find_first, find_none}
use Rattle.terminal_codes.specs.declared.caret.Caret.{Caret}
use Rattle.terminal_codes.specs.Bodies.{IsFirstTouch, StartTouches}
use Rattle.terminal_codes.proofs.Starts.{touch_to_start}
use Rattle.abstract_paint.specs.declared.start.Start.{Start}
use Rattle.abstract_paint.specs.declared.painting.Painted.{Painted}
use Rattle.abstract_paint.specs.declared.painting.Painted.TheVariants.{Clean, Touches}
use Rattle.abstract_paint.specs.Paint.{paint_of, IsPainted}
use Rattle.abstract_paint.specs.Start.{start_number, IsStart, IsStartAt, caret_numbered, start_touches, least_number, start_at, start_of}
use Rattle.abstract_paint.proofs.Judged.{painted_law}
use Rattle.abstract_paint.proofs.StepLaw.{caret, same_caret}

numbered : (n k d : ℕ) → k < n → get_or (range_with_len 0 n) k d ≡ k
numbered n k d lt = omega (arith, get_or-range_with_len 0 n k d lt)

-- the first number below n that passes is found among them
pub found_below : (test : ℕ → Bool) (n : ℕ) (r : Option ℕ) → MatchOption r ((k : ℕ) → 0 ≤ k → k < n → test k ≡ false) (λ i. (0 ≤ i) × (i < n) × (test i ≡ true) × ((k : ℕ) → 0 ≤ k → k < i → test k ≡ false)) → r ≡ find test (range_with_len 0 n)
found_below test n std.None h =
    sym (find_none test (range_with_len 0 n) (λ k d lt.
    let below : k < n = omega (arith, lt, length-range_with_len 0 n) in
    ap test (numbered n k d below) ∙ h k (omega arith) below))
found_below test n (std.Some i) h =
    sym (find_first test (range_with_len 0 n) i i (omega (arith, h.1, length-range_with_len 0 n)) (numbered n i i h.1) h.2 (λ k lt.
    ap test (numbered n k i (omega (arith, h.1))) ∙ h.3 k (omega arith) lt))

odd_test : (n p : ℕ) → 2 * p + 1 ≡ n → true ≡ (n % 2 == 1)
odd_test n p e = let one : n % 2 ≡ 1 = omega arith in rw one refl

even_test : (n p : ℕ) → 2 * p + 0 ≡ n → false ≡ (n % 2 == 1)
even_test n p e = let none : n % 2 ≡ 0 = omega arith in rw none refl

-- a start is that of its number
caret_by : (n p : ℕ) (q : Bool) → 2 * p + from_bool q ≡ n → caret p q ≡ caret_numbered n
caret_by n p true e = same_caret p (n / 2) true (n % 2 == 1) (omega arith) (odd_test n p e)
caret_by n p false e = same_caret p (n / 2) false (n % 2 == 1) (omega arith) (even_test n p e)

number_by : (n r : ℕ) → n % 2 ≡ r → 2 * (n / 2) + from_bool (r == 1) ≡ n
number_by n zero e = omega arith
number_by n (suc zero) e = omega arith
number_by n (suc (suc r)) e = absurd (omega arith)

-- and a number is that of its start
number_is : (n : ℕ) → start_number (caret_numbered n) ≡ n
number_is n = number_by n (n % 2) refl

small : (p : ℕ) (q : Bool) → p < 960 → 2 * p + from_bool q < 1920
small p true lt = omega arith
small p false lt = omega arith

module _ (lead : Lead) (body : List ℕ) (i : ℕ) where
  abbrev test : ℕ → Bool
  test n = start_touches lead body i (caret_numbered n)

  touch_of : (c : Caret) → start_touches lead body i c ≡ true → StartTouches lead body i c
  touch_of c e = (grind (arith, nat_tests), grind (arith, nat_tests))

  test_of : (c : Caret) → StartTouches lead body i c → start_touches lead body i c ≡ true
  test_of c h = grind (arith, nat_tests, h.0, h.1)

  -- a start whose number fails doesn't touch
  fails_at : (c : Caret) → test (start_number c) ≡ false → StartTouches lead body i c → ⊥
  fails_at c fails h =
      let yes = test_of (caret_numbered (start_number c)) (subst (λ (d : Caret). StartTouches lead body i d) (caret_by (start_number c) c.at c.pending refl) h) in
      absurd cc

  is_start_at : (r : Option ℕ) → least_number lead body i ≡ r → IsStartAt lead body i (start_at lead body i)
  unfolding least_number
  is_start_at std.None e = rw e (λ c lt h.
      let below = small c.at c.pending lt in
      fails_at c (sym (ap test (numbered 1920 (start_number c) 0 below)) ∙ none_found test (range_with_len 0 1920) e (start_number c) 0 (omega (arith, below, length-range_with_len 0 1920))) h)
  is_start_at (std.Some n) e =
      let first = first_found test (range_with_len 0 1920) n e in
      let within : first.0 < 1920 = omega (arith, first.1.within, length-range_with_len 0 1920) in
      let same : first.0 ≡ n = sym (numbered 1920 first.0 0 within) ∙ first.1.at 0 in
      rw e (
        refl,
        record {
          on_screen = omega (arith, same, within);
          touch = touch_of (caret_numbered n) first.1.passes;
          least = λ c less h.
              let below : start_number c < first.0 = omega (arith, less, number_is n, same) in
              fails_at c (sym (ap test (numbered 1920 (start_number c) 0 (omega (arith, below, within)))) ∙ first.1.before (start_number c) 0 below) h;
        },
      )

-- what is computed is the least
pub means_at : (lead : Lead) (body : List ℕ) (i : ℕ) (s : Option Start) → s ≡ start_at lead body i → IsStartAt lead body i s
means_at lead body i s e = subst (λ (t : Option Start). IsStartAt lead body i t) (sym e) (is_start_at lead body i (least_number lead body i) refl)

-- some start touches if some terminal does, so there is one at the first touch
at_first : (lead : Lead) (body : List ℕ) (i : ℕ) (s : Option Start) → IsFirstTouch lead body i → IsStartAt lead body i s → IsStart lead body s
at_first lead body i std.None first h = let w = touch_to_start lead body i first.touch in absurd (h w.0 w.1 w.2)
at_first lead body i (std.Some s) first h =
    record { offset = subst (λ (j : ℕ). IsFirstTouch lead body j) (sym h.0) first; start = h.1 }

is_start_by : (lead : Lead) (body : List ℕ) (r : Painted) → IsPainted lead body r → IsStart lead body (start_of lead body r)
is_start_by lead body (Clean x) p = p.0
is_start_by lead body (Touches i) p = at_first lead body i (start_at lead body i) p (means_at lead body i (start_at lead body i) refl)

-- for every frame
pub is_start : (lead : Lead) (body : List ℕ) → IsStart lead body (start_of lead body (paint_of lead body))
is_start lead body = is_start_by lead body (paint_of lead body) (painted_law lead body)

pub means : (lead : Lead) (body : List ℕ) (s : Option Start) → s ≡ start_of lead body (paint_of lead body) → IsStart lead body s
means lead body s e = subst (λ (t : Option Start). IsStart lead body t) (sym e) (is_start lead body)
