-- The rows are judged in turn.
use Rattle.std.proofs.Common.{◌≡◌, ℕ, ◌+◌, List, ◌∷◌, drop, suc, Option, Some, None, sym, ◌∙◌, ap, add-one}
use Rattle.std.specs.Prelude.{slice_get}
use Rattle.std.proofs.Math.Seq.{drop-cons}
use Rattle.std.proofs.lemmas.Option.{slice_get_within, get_or_from_slice_get}
use Rattle.frame_records.specs.Bases.{BaseView}
use Rattle.cert_table.specs.declared.row.Row.{Row}
use Rattle.cert_table.specs.Table.{CertView}
use Rattle.checker.specs.declared.verdict.Cause.{Cause}
use Rattle.checker.specs.Conditions.{◌otherwise◌}
use Rattle.checker.specs.Verdict.{on_row, on_rows}

pub drop_at : {A : Type 0} (xs : List A) (i : ℕ) (x : A) → slice_get xs i ≡ Some x → drop i xs ≡ x ∷ drop (i + 1) xs
drop_at xs i x e =
    rw add-one (drop-cons xs i x (slice_get_within xs i x e) ∙ ap (λ y. y ∷ drop (suc i) xs) (get_or_from_slice_get xs i x x e))

module _ (caller : List ℕ) (base : BaseView) (cert : CertView) (rows : List Row) (i : ℕ) (row : Row) (at : slice_get rows i ≡ Some row) where
  abbrev from : ℕ → Option Cause
  from n = (on_rows caller base cert (drop n rows)).first_cause

  here : from i ≡ ((on_row caller base cert row).first_cause otherwise from (i + 1))
  here = ap (λ (rs : List Row). (on_rows caller base cert rs).first_cause) (drop_at rows i row at)

  pub next_row : (on_row caller base cert row).first_cause ≡ None → from (i + 1) ≡ from i
  next_row none = sym (here ∙ ap (λ o. o otherwise from (i + 1)) none)

  pub last_row : (c : Cause) → (on_row caller base cert row).first_cause ≡ Some c → from i ≡ Some c
  last_row c some = here ∙ ap (λ o. o otherwise from (i + 1)) some
