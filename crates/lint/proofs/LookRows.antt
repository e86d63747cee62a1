-- What may be wrong with the rows of a screen, one row after another.
use Rattle.std.proofs.Common.{◌≡◌, ℕ, ◌+◌, List, ◌++◌, add-one, ap, refl, sym, ◌∙◌}
use Rattle.std.proofs.lemmas.List.{append-nil, append_assoc}
use Rattle.page_ids.specs.Ids.{Id}
use Rattle.lint.specs.declared.looks.Look.{Look}
use Rattle.lint.specs.Looks.{row_warnings, rows_up_to}

pub rows_begin : (id : Id) (cells : List ℕ) (before : List (Id × Look)) → before ≡ before ++ rows_up_to id cells 0
unfolding rows_up_to
rows_begin id cells before = sym (append-nil before)

pub rows_more : (id : Id) (cells : List ℕ) (n : ℕ) (before rows more : List (Id × Look)) → rows ≡ before ++ rows_up_to id cells n →
    more ≡ rows ++ row_warnings id cells (n + 1) → more ≡ before ++ rows_up_to id cells (n + 1)
unfolding rows_up_to
rows_more id cells n before rows more so_far added =
    added ∙ (ap (λ (xs : List (Id × Look)). xs ++ row_warnings id cells (n + 1)) so_far ∙ (append_assoc before (rows_up_to id cells n) (row_warnings id cells (n + 1)) ∙ rw add-one refl))
