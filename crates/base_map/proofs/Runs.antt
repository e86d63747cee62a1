-- The runs of a body while it is read.
use Rattle.std.proofs.Common.{◌≡◌, ◌≢◌, ◌∙◌, ◌==◌, sym, ap, cond, ℕ, zero, suc, Bool, true, false, List, [], ◌∷◌, ◌++◌, All, Some, None, append_assoc, append-nil, refl, subst, arith}
use Rattle.std.specs.Prelude.{find, unwrap_or}
use Rattle.std.specs.List.{slice_split}
use Rattle.std.proofs.lemmas.Bool.Decides.{nat_tests}
use Rattle.std.proofs.lemmas.List.Elements.{All-append}
use Rattle.std.proofs.lemmas.List.Splits.{slice_split_at, slice_split_none}
use Rattle.base_map.specs.Nodes.{without_escapes, ends_run, is_title, run_in}

-- the run so far, and the codes that are left, give the title's run
pub record IsRunOf (run : List ℕ) (escaped : Bool) (left run_is : List ℕ) : Type 0 where
  pub plain : All (λ c. ends_run c ≡ false) run
  pub same : run_in (run ++ without_escapes escaped left) ≡ run_is

one_plain : (c : ℕ) → ends_run c ≡ false → All (λ x. ends_run x ≡ false) (c ∷ [])
one_plain c e zero d lt = e
one_plain c e (suc k) d lt = absurd (omega (arith, lt))

no_escape : (c : ℕ) → c ≢ 27 → (c == 27) ≡ false
no_escape c other = grind (arith, nat_tests, other)

no_code : (d : ℕ) → All (λ x. ends_run x ≡ false) []
no_code d k e lt = absurd (omega (arith, lt))

-- a code after an escape's first is passed over
pub after_escape : (run : List ℕ) (c : ℕ) (left is : List ℕ) → IsRunOf run true (c ∷ left) is → IsRunOf run false left is
after_escape run c left is h = record { plain = h.plain; same = h.same }

-- so is the first
pub at_escape : (run : List ℕ) (c : ℕ) (left is : List ℕ) → c ≡ 27 → IsRunOf run false (c ∷ left) is → IsRunOf run true left is
at_escape run c left is e h = record { plain = h.plain; same = (subst (λ x. IsRunOf run false (x ∷ left) is) e h).same }

step : (c : ℕ) (left : List ℕ) → c ≢ 27 → without_escapes false (c ∷ left) ≡ c ∷ without_escapes false left
step c left other = rw (no_escape c other) refl

-- a plain code goes last in the run
pub at_plain : (run : List ℕ) (c : ℕ) (left is : List ℕ) → c ≢ 27 → ends_run c ≡ false → IsRunOf run false (c ∷ left) is → IsRunOf (run ++ c ∷ []) false left is
at_plain run c left is other e h = record {
  plain = All-append (λ x. ends_run x ≡ false) run (c ∷ []) h.plain (one_plain c e);
  same = ap run_in (append_assoc run (c ∷ []) (without_escapes false left) ∙ ap (λ xs. run ++ xs) (sym (step c left other))) ∙ h.same;
}

-- any other code ends the run
ended : (run : List ℕ) (c : ℕ) (left is : List ℕ) → c ≢ 27 → ends_run c ≡ true → IsRunOf run false (c ∷ left) is
    → unwrap_or (cond (is_title run) (Some run) (find is_title (slice_split ends_run (without_escapes false left)))) [] ≡ is
ended run c left is other e h =
    let split = slice_split_at ends_run run c (without_escapes false left) h.plain e in
    ap (λ parts. unwrap_or (find is_title parts) []) (sym split) ∙ (ap (λ xs. run_in (run ++ xs)) (sym (step c left other)) ∙ h.same)

pub at_title : (run : List ℕ) (c : ℕ) (left is : List ℕ) → c ≢ 27 → ends_run c ≡ true → is_title run ≡ true → IsRunOf run false (c ∷ left) is → run ≡ is
at_title run c left is other e t h = rw t at (ended run c left is other e h)

pub at_end_of_run : (run : List ℕ) (c : ℕ) (left is : List ℕ) → c ≢ 27 → ends_run c ≡ true → is_title run ≡ false → IsRunOf run false (c ∷ left) is → IsRunOf [] false left is
at_end_of_run run c left is other e t h = record { plain = no_code 0; same = rw t at (ended run c left is other e h) }

no_more : (escaped : Bool) → without_escapes escaped [] ≡ []
no_more true = refl
no_more false = refl

-- at the end the last run is judged
pub at_last : (run : List ℕ) (escaped : Bool) (is : List ℕ) → IsRunOf run escaped [] is → unwrap_or (cond (is_title run) (Some run) None) [] ≡ is
at_last run escaped is h =
    let split = slice_split_none ends_run run h.plain in
    ap (λ parts. unwrap_or (find is_title parts) []) (sym split) ∙ (ap run_in (sym (append-nil run) ∙ ap (λ xs. run ++ xs) (sym (no_more escaped))) ∙ h.same)
