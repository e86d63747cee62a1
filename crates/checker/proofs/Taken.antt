-- What the rows take in turn.
use Rattle.std.proofs.Common.{◌≡◌, ℕ, ◌+◌, List, ◌∷◌, drop, Option, Some, None, ◌≤◌, refl, ◌∙◌, ap, arith}
use Rattle.std.specs.Prelude.{slice_get}
use Rattle.std.specs.List.{sum_by}
use Rattle.std.proofs.lemmas.List.Sums.{sum_by-cons}
use Rattle.frame_records.specs.Bases.{BaseView}
use Rattle.cert_table.specs.declared.row.Row.{Row}
use Rattle.cert_table.specs.Table.{CertView}
use Rattle.checker.specs.declared.verdict.Cause.{Cause}
use Rattle.checker.specs.Verdict.{on_row}
use Rattle.checker.specs.Counts.{rows_unless_fault, rows_judged}
use Rattle.checker.proofs.RowsInTurn.{drop_at}

-- the sum so far and that of the rows that are still judged, one row further
module _ (f : Row → ℕ) (caller : List ℕ) (base : BaseView) (cert : CertView) (rows : List Row) (i : ℕ) (row : Row) (at : slice_get rows i ≡ Some row) (total one all : ℕ) (before : total + sum_by f (rows_judged caller base cert (drop i rows)) ≡ all) (is : one ≡ f row) where
  judged_at : (o : Option Cause) → (on_row caller base cert row).first_cause ≡ o → rows_judged caller base cert (drop i rows) ≡ row ∷ rows_unless_fault o (rows_judged caller base cert (drop (i + 1) rows))
  judged_at o e = ap (rows_judged caller base cert) (drop_at rows i row at) ∙ ap (λ (o : Option Cause). row ∷ rows_unless_fault o (rows_judged caller base cert (drop (i + 1) rows))) e

  split : (o : Option Cause) → (on_row caller base cert row).first_cause ≡ o → total + one + sum_by f (rows_unless_fault o (rows_judged caller base cert (drop (i + 1) rows))) ≡ all
  split o e = omega (arith, before, is, ap (sum_by f) (judged_at o e), sum_by-cons f row (rows_unless_fault o (rows_judged caller base cert (drop (i + 1) rows))))

  pub sum_within : total + one ≤ all
  sum_within = omega (arith, split _ refl)

  pub sum_next : (new : ℕ) → new ≡ total + one → (on_row caller base cert row).first_cause ≡ None → new + sum_by f (rows_judged caller base cert (drop (i + 1) rows)) ≡ all
  sum_next new more none = omega (arith, more, split None none)

  pub sum_last : (new : ℕ) → new ≡ total + one → (c : Cause) → (on_row caller base cert row).first_cause ≡ Some c → new ≡ all
  sum_last new more c some = omega (arith, more, split (Some c) some)
