-- The caret of a run, and what it writes.
use Rattle.std.proofs.Common.{◌≡◌, ℕ, inl, inr, arith, refl, ap, sym, ◌∙◌, subst, Bool, true, false, List, [], ◌∷◌, ◌++◌, Option, Some, None, ◌==◌, nat_lt}
use Rattle.std.proofs.lemmas.Bool.{cases_eq}
use Rattle.std.proofs.lemmas.Bool.Decides.{nat_tests}
use Rattle.terminal_codes.specs.Screen.{Screen, high_code_of, control_step, with_code, byte_step, run}
use Rattle.terminal_codes.specs.Writes.{caret_of, control_at, past, byte_writes, caret_step, caret_run, writes, blanks, has_service, touches, RunsAlike}
use Rattle.terminal_codes.specs.declared.caret.Caret.{Caret}

-- what the bytes write, from a position and a flag
abbrev pub caret_writes : Caret → List ℕ → List (ℕ × ℕ)
caret_writes c [] = []
caret_writes c (b ∷ bs) = byte_writes c b ++ caret_writes (caret_step c b) bs

caret_of_control : (t : Screen) (b : ℕ) → caret_of (control_step t b) ≡ record { at = control_at t.at b; pending = b == 27 }
caret_of_control t b =
    elim (cases_eq b 27) [
      | inl e ↦ subst (λ (k : ℕ). caret_of (control_step t k) ≡ record { at = control_at t.at k; pending = k == 27 }) (sym e) refl
      | inr n27 ↦
          elim (cases_eq b 12) [
            | inl e ↦ subst (λ (k : ℕ). caret_of (control_step t k) ≡ record { at = control_at t.at k; pending = k == 27 }) (sym e) refl
            | inr n12 ↦
                elim (cases_eq b 17) [
                  | inl e ↦ subst (λ (k : ℕ). caret_of (control_step t k) ≡ record { at = control_at t.at k; pending = k == 27 }) (sym e) refl
                  | inr n17 ↦
                      elim (cases_eq b 20) [
                        | inl e ↦ subst (λ (k : ℕ). caret_of (control_step t k) ≡ record { at = control_at t.at k; pending = k == 27 }) (sym e) refl
                        | inr n20 ↦
                            let not_27 : (b == 27) ≡ false = grind (arith, nat_tests) in
                            let not_12 : (b == 12) ≡ false = grind (arith, nat_tests) in
                            let not_17 : (b == 17) ≡ false = grind (arith, nat_tests) in
                            let not_20 : (b == 20) ≡ false = grind (arith, nat_tests) in
                            rw (not_27, not_12, not_17, not_20) refl
                      ]
                ]
          ]
    ]

caret_of_code : (t : Screen) (b : ℕ) (code : Option ℕ) → (b == 27) ≡ false → caret_of (with_code t code) ≡ record { at = past t.at code; pending = b == 27 }
caret_of_code t b None e = rw e refl
caret_of_code t b (Some c) e = rw e refl

caret_of_by : (t : Screen) (b : ℕ) (low : Bool) → nat_lt b 32 ≡ low → caret_of (byte_step t b) ≡ caret_step (caret_of t) b
caret_of_by t b true e = rw e (caret_of_control t b)
caret_of_by t b false e =
    let not_27 : (b == 27) ≡ false = grind (arith, nat_tests) in
    rw e (caret_of_code t b (high_code_of t.pending b) not_27)

pub caret_of_step : (t : Screen) (b : ℕ) → caret_of (byte_step t b) ≡ caret_step (caret_of t) b
caret_of_step t b = caret_of_by t b (nat_lt b 32) refl

pub caret_of_run : (t : Screen) (bytes : List ℕ) → caret_of (run t bytes) ≡ caret_run (caret_of t) bytes
caret_of_run t [] = refl
caret_of_run t (b ∷ bs) = caret_of_run (byte_step t b) bs ∙ ap (λ (c : Caret). caret_run c bs) (caret_of_step t b)

pub writes_of_caret : (t : Screen) (bytes : List ℕ) → writes t bytes ≡ caret_writes (caret_of t) bytes
writes_of_caret t [] = refl
writes_of_caret t (b ∷ bs) =
    ap (λ (ws : List (ℕ × ℕ)). byte_writes (caret_of t) b ++ ws) (writes_of_caret (byte_step t b) bs ∙ ap (λ (c : Caret). caret_writes c bs) (caret_of_step t b))

pub runs_alike : (t u : Screen) (bytes : List ℕ) → caret_of t ≡ caret_of u → RunsAlike t u bytes
runs_alike t u bytes e = record {
  writes = writes_of_caret t bytes ∙ (ap (λ (c : Caret). caret_writes c bytes) e ∙ sym (writes_of_caret u bytes));
  ends = caret_of_run t bytes ∙ (ap (λ (c : Caret). caret_run c bytes) e ∙ sym (caret_of_run u bytes));
}

pub run_append : (t : Screen) (xs ys : List ℕ) → run t (xs ++ ys) ≡ run (run t xs) ys
run_append t [] ys = refl
run_append t (x ∷ xs) ys = run_append (byte_step t x) xs ys

pub caret_run_append : (c : Caret) (xs ys : List ℕ) → caret_run c (xs ++ ys) ≡ caret_run (caret_run c xs) ys
caret_run_append c [] ys = refl
caret_run_append c (x ∷ xs) ys = caret_run_append (caret_step c x) xs ys

pub caret_run_push : (c : Caret) (xs : List ℕ) (b : ℕ) → caret_run c (xs ++ b ∷ []) ≡ caret_step (caret_run c xs) b
caret_run_push c xs b = caret_run_append c xs (b ∷ [])

blanks_serve : has_service (blanks 960) ≡ true
unfolding blanks
blanks_serve = refl

pub touches_12 : (c : Caret) (b : ℕ) → b ≡ 12 → true ≡ touches c b
touches_12 c b e = subst (λ (k : ℕ). true ≡ touches c k) (sym e) (sym blanks_serve)
