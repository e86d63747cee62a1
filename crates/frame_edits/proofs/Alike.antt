-- What is tried on one terminal holds of all.
use Rattle.std.proofs.Common.{◌≡◌, ◌∙◌, ℕ, List, true, nat_eq, arith, ap, refl, subst, sym, replicate}
use Rattle.std.proofs.lemmas.List.{length-replicate}
use Rattle.std.specs.Prelude.{◌↔◌}
use Rattle.std.specs.Cmp.{Equal-is}
use Rattle.std.specs.Cmp.Lexicographic.{nat_list_eq_equiv, pointwise, slice_cmp, texts_ties}
use Rattle.std.specs.FinMap.{nat_cmp-IsAntisymmetric, slice_cmp-IsAntisymmetric}
use Rattle.std.specs.Ordering.{nat_cmp}
use Rattle.frame_records.specs.declared.frame.Lead.TheVariants.{Clear}
use Rattle.terminal_codes.specs.Screen.{IsScreen, Screen, run}
use Rattle.terminal_codes.specs.Writes.{stored}
use Rattle.terminal_codes.specs.Bodies.{lead_codes}
use Rattle.terminal_codes.proofs.Runs.{runs_alike}
use Rattle.terminal_codes.proofs.Stores.{stores_writes}
use Rattle.screen_forms.specs.Laws.{IsSavedScreen}
use Rattle.base_text.specs.Rows.{body_of_rows}
use Rattle.screen_files.specs.Codes.{switched_on}
use Rattle.screen_files.specs.Laws.{rows_alone}
use Rattle.screen_files.specs.Rows.{rows_of}
use Rattle.screen_files.proofs.Shown.{frames_show}
use Rattle.frame_edits.specs.Merging.{after_body, shows_rows}
use Rattle.frame_edits.specs.Laws.{AllShow}

-- codes that `==` holds of
same_codes : (xs ys : List ℕ) → pointwise nat_eq xs ys ≡ true → xs ≡ ys
same_codes xs ys e =
    slice_cmp-IsAntisymmetric nat_cmp-IsAntisymmetric xs ys ((Equal-is (slice_cmp nat_cmp xs ys)).0 (sym (texts_ties xs ys) ∙ e))

-- the lead leaves each terminal blank, at the start of row 1
led : (t : Screen) → IsScreen (run t (lead_codes Clear))
led t = record { cells = length-replicate {A = ℕ} 960 32; at = omega arith }

-- so that a body writes the same on all
alike : (t : Screen) (body : List ℕ) → (run (run t (lead_codes Clear)) body).cells ≡ (after_body body).cells
alike t body =
    let one = run t (lead_codes Clear) in
    let other = run switched_on (lead_codes Clear) in
    (stores_writes one body (led t)).cells
    ∙ ap (stored (replicate 960 32)) (runs_alike one other body refl).writes
    ∙ sym (stores_writes other body (led switched_on)).cells

pub shown : (body screen : List ℕ) → (shows_rows body screen ≡ true) ↔ AllShow body screen
shown body screen = (
  λ e t. alike t body ∙ same_codes (after_body body).cells (rows_alone screen) e,
  λ all. subst (λ (cells : List ℕ). pointwise nat_eq cells (rows_alone screen) ≡ true) (sym (all switched_on))
      (nat_list_eq_equiv.refl (rows_alone screen)),
)

pub written : (screen : List ℕ) → IsSavedScreen screen → shows_rows (body_of_rows (rows_of screen)) screen ≡ true
written screen saved = (shown (body_of_rows (rows_of screen)) screen).1 (λ t. frames_show t screen saved)
