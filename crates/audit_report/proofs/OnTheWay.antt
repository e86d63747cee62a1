-- A text on its way to a sink, line by line.
use Rattle.std.proofs.Common.{◌≡◌, ◌∙◌, ◌+◌, ℕ, zero, suc, List, [], ◌++◌, sym, ap, append_assoc, arith}
use Rattle.std.proofs.lemmas.List.{append-nil}
use Rattle.frame_records.specs.Bases.{BaseView}
use Rattle.finder.specs.declared.found.Discovered.{Discovered}
use Rattle.audit_report.specs.declared.list_form.ListForm.{ListForm}
use Rattle.audit_report.specs.Listing.{reached_line, reached_lines}

module _ (form : ListForm) (base : BaseView) (found : List Discovered) where
  -- one line more
  pub next : (i : ℕ) → reached_lines form base found (i + 1) ≡ reached_lines form base found i ++ reached_line form base found i
  next i = let one : i + 1 ≡ suc i = omega arith in ap (λ n. reached_lines form base found n) one

  -- the first lines, and the others
  pub split : (i n : ℕ) → (rest : List ℕ) × (reached_lines form base found (n + i) ≡ reached_lines form base found i ++ rest)
  split i zero = let none : 0 + i ≡ i = omega arith in ([], ap (λ n. reached_lines form base found n) none ∙ sym (append-nil (reached_lines form base found i)))
  split i (suc n) =
      let before = split i n in
      let line = reached_line form base found (n + i) in
      let one : suc n + i ≡ suc (n + i) = omega arith in
      (before.0 ++ line, ap (λ m. reached_lines form base found m) one ∙ ap (λ xs. xs ++ line) before.1 ∙ append_assoc (reached_lines form base found i) before.0 line)
