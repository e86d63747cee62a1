-- Rows are painted one below the other.
use Rattle.std.proofs.Common.{◌≡◌, ℕ, ◌+◌, ◌-◌, ◌*◌, ◌%◌, ◌<◌, ◌≤◌, ◌==◌, Bool, true, false, not, cond, ◌&&◌, ◌||◌, ltb, suc, nat_lt, List, [], ◌∷◌, ◌++◌, length, get_or, refl, ap, sym, subst, ◌∙◌, arith, append_assoc}
use Rattle.std.specs.List.{AllByRecursion}
use Rattle.std.proofs.lemmas.Bool.Decides.{nat_tests}
use Rattle.std.proofs.lemmas.List.{nil_from_length}
use Rattle.frame_records.specs.declared.frame.Lead.{Lead}
use Rattle.frame_records.specs.declared.frame.Lead.TheVariants.{Clear, Keep}
use Rattle.base_text.specs.Rows.{is_row_code, are_row_codes, IsTextRow, rows_bytes, body_of_rows}
use Rattle.terminal_codes.specs.Writes.{is_service}
use Rattle.abstract_paint.specs.declared.cursor.AbsCursor.{AbsCursor}
use Rattle.abstract_paint.specs.declared.cursor.Place.TheVariants.{Spot}
use Rattle.abstract_paint.specs.declared.painting.Painted.{Painted}
use Rattle.abstract_paint.specs.declared.painting.Painted.TheVariants.{Clean, Touches}
use Rattle.abstract_paint.specs.Paint.{calm, paint_from, paint_of, is_cell_code, codes_fit}
use Rattle.abstract_paint.proofs.Codes.{goes_on, code_touches, codes_go_on}
use Rattle.abstract_paint.proofs.Exact.{is_exact}
use Rattle.checker.specs.Laws.{has_double_height, row_22, RowsAreClean}
use Rattle.std.proofs.lemmas.Bool.{and_parts}
use Rattle.abstract_paint.proofs.Codes.{same_paint}

cell : (c : ℕ) → is_row_code c ≡ true → is_cell_code c ≡ true
cell c h = grind (arith, nat_tests)

-- up to row 21 no code counts as written in a service row, in row 22 double height does
inside : (p c : ℕ) → 40 ≤ p → p < 880 → is_service p c ≡ false
inside p c lo hi = grind (arith, nat_tests)

serves_22 : (p c : ℕ) (r : Bool) → (c == 141) ≡ r → 880 ≤ p → p < 920 → is_service p c ≡ r
serves_22 p c true e lo hi = grind (arith, nat_tests)
serves_22 p c false e lo hi = grind (arith, nat_tests)

-- what a row may hold is written as it is, and fits in the rows 1 to 21
fits : (p : ℕ) (cs : List ℕ) → are_row_codes cs ≡ true → 40 ≤ p → p + length cs ≤ 880 → codes_fit p cs ≡ true
fits p [] h lo hi = refl
fits p (c ∷ cs) h lo hi =
    let b = and_parts (is_row_code c) (are_row_codes cs) h in
    let s = inside p c lo (omega arith) in
    rw (cell c b.0) (rw s (fits (p + 1) cs b.1 (omega arith) (omega arith)))

neither : (a b : Bool) → (not a && not b) ≡ not (a || b)
neither true b = refl
neither false b = refl

-- in row 22 it fits without double height alone
fits_22 : (p : ℕ) (cs : List ℕ) → are_row_codes cs ≡ true → 880 ≤ p → p + length cs ≤ 920 → codes_fit p cs ≡ not (has_double_height cs)
fits_22 p [] h lo hi = refl
fits_22 p (c ∷ cs) h lo hi =
    let b = and_parts (is_row_code c) (are_row_codes cs) h in
    let s = serves_22 p c (c == 141) refl lo (omega arith) in
    rw (cell c b.0) (rw s (rw (fits_22 (p + 1) cs b.1 (omega arith) (omega arith)) (neither (c == 141) (has_double_height cs))))

-- if codes don't fit, the first that doesn't touches
codes_touch : (cs rest : List ℕ) (p i : ℕ) → are_row_codes cs ≡ true → codes_fit p cs ≡ false → (j : ℕ) × (paint_from (calm (Spot p)) i (cs ++ rest) ≡ Touches j)
codes_touch [] rest p i h f = cc
codes_touch (c ∷ cs) rest p i h f =
    let b = and_parts (is_row_code c) (are_row_codes cs) h in
    by_test (cell c b.0) (λ more. codes_touch cs rest (p + 1) (i + 1) b.1 more) (is_service p c) refl where
      by_test : is_cell_code c ≡ true → (codes_fit (p + 1) cs ≡ false → (j : ℕ) × (paint_from (calm (Spot (p + 1))) (i + 1) (cs ++ rest) ≡ Touches j)) → (r : Bool) → is_service p c ≡ r → (j : ℕ) × (paint_from (calm (Spot p)) i (c ∷ cs ++ rest) ≡ Touches j)
      by_test is later true e = (i, code_touches c (cs ++ rest) p i is e)
      by_test is later false e =
          let more = later (rw (is, e) at f) in
          (more.0, goes_on p c i (cs ++ rest) is e ∙ more.1)

-- the end of a row that isn't full: back to its start, and one row down
row_end : (k n i : ℕ) (bs : List ℕ) → n < 40 → k ≤ 22 → paint_from (calm (Spot (40 * k + n))) i (13 ∷ 10 ∷ bs) ≡ paint_from (calm (Spot (40 * (k + 1)))) (i + 1 + 1) bs
row_end k n i bs lt le = same_paint ((40 * k + n - (40 * k + n) % 40 + 40) % 960) (40 * (k + 1)) (i + 1 + 1) (i + 1 + 1) bs (omega arith) refl

-- a row that fits at the start of row k leads to the start of the next
one_row : (full : Bool) (row rest : List ℕ) (k i : ℕ) → ltb (length row) 40 ≡ full → length row ≤ 40 → codes_fit (40 * k) row ≡ true → k ≤ 22 → (j : ℕ) × (paint_from (calm (Spot (40 * k))) i (cond full (row ++ 13 ∷ 10 ∷ []) row ++ rest) ≡ paint_from (calm (Spot (40 * (k + 1)))) j rest)
one_row true row rest k i e most fit hi =
    let short : length row < 40 = grind (arith, nat_tests) in
    let moved = codes_go_on row (13 ∷ 10 ∷ rest) (40 * k) i fit in
    (i + length row + 1 + 1, ap (paint_from (calm (Spot (40 * k))) i) (append_assoc row (13 ∷ 10 ∷ []) rest) ∙ moved ∙ row_end k (length row) (i + length row) rest short hi)
one_row false row rest k i e most fit hi =
    let not_short : 40 ≤ length row = grind (arith, nat_tests) in
    let moved = codes_go_on row rest (40 * k) i fit in
    (i + length row, moved ∙ same_paint (40 * k + length row) (40 * (k + 1)) (i + length row) (i + length row) rest (omega arith) refl)

-- the result of painting: with double height in the 22nd row it touches, else it ends at the cursor
abbrev Comes : Bool → AbsCursor → Painted → Type 0
Comes true x painted = (j : ℕ) × (painted ≡ Touches j)
Comes false x painted = painted ≡ Clean x

row_touches : (full : Bool) (row rest : List ℕ) (p i : ℕ) → are_row_codes row ≡ true → codes_fit p row ≡ false → (j : ℕ) × (paint_from (calm (Spot p)) i (cond full (row ++ 13 ∷ 10 ∷ []) row ++ rest) ≡ Touches j)
row_touches true row rest p i h f = rw append_assoc (codes_touch row (13 ∷ 10 ∷ rest) p i h f)
row_touches false row rest p i h f = codes_touch row rest p i h f

-- the 22nd row
last_row : (row : List ℕ) (i : ℕ) (d : Bool) → IsTextRow row → codes_fit 880 row ≡ not d → Comes d (calm (Spot 920)) (paint_from (calm (Spot 880)) i (rows_bytes (row ∷ [])))
last_row row i true is f = row_touches (ltb (length row) 40) row [] 880 i is.1 f
last_row row i false is f = (one_row (ltb (length row) 40) row [] 22 i refl is.0 f (omega arith)).1

-- the rows from the start of row k on, which end in row 22 at most
abbrev Paints : ℕ → ℕ → List (List ℕ) → Type 0
Paints k i rows = Comes (has_double_height (get_or rows (22 - k) [])) (calm (Spot (40 * (k + length rows)))) (paint_from (calm (Spot (40 * k))) i (rows_bytes rows))

only_row : (row : List ℕ) (rows : List (List ℕ)) (i : ℕ) → IsTextRow row → length rows ≡ 0 → Paints 22 i (row ∷ rows)
only_row row rows i is e = subst (λ (rs : List (List ℕ)). Paints 22 i (row ∷ rs)) (sym (nil_from_length rows e)) (last_row row i (has_double_height row) is (fits_22 880 row is.1 (omega arith) (omega (arith, is.0))))

comes_by : (d : Bool) (x y : AbsCursor) (p q : Painted) → x ≡ y → p ≡ q → Comes d x q → Comes d y p
comes_by true x y p q e f h = (h.0, f ∙ h.1)
comes_by false x y p q e f h = f ∙ h ∙ ap Clean e

all_rows : (rows : List (List ℕ)) (k i : ℕ) → AllByRecursion IsTextRow rows → 1 ≤ k → k + length rows ≤ 23 → Paints k i rows
all_rows [] k i are lo hi = ap (λ (n : ℕ). Clean (calm (Spot (40 * n)))) (add_none k) where
  add_none : (k : ℕ) → k ≡ k + 0
  add_none k = omega arith
all_rows (row ∷ rows) k i are lo hi = by_place (λ j. all_rows rows (k + 1) j are.1 (omega arith) (omega arith)) (nat_lt k 22) refl where
  by_place : ((j : ℕ) → Paints (k + 1) j rows) → (r : Bool) → nat_lt k 22 ≡ r → Paints k i (row ∷ rows)
  by_place more true e =
      let above : k < 22 = grind (arith, nat_tests) in
      let one = one_row (ltb (length row) 40) row (rows_bytes rows) k i refl are.0.0 (fits (40 * k) row are.0.1 (omega arith) (omega (arith, are.0.0))) (omega arith) in
      let next : 22 - k ≡ suc (22 - (k + 1)) = omega arith in
      let count : 40 * (k + 1 + length rows) ≡ 40 * (k + suc (length rows)) = omega arith in
      subst (λ (n : ℕ). Comes (has_double_height (get_or (row ∷ rows) n [])) (calm (Spot (40 * (k + suc (length rows))))) (paint_from (calm (Spot (40 * k))) i (rows_bytes (row ∷ rows)))) (sym next)
      (comes_by (has_double_height (get_or rows (22 - (k + 1)) [])) _ _ _ _ (ap (λ (n : ℕ). calm (Spot n)) count) one.1 (more one.0))
  by_place more false e =
      let below : 22 ≤ k = grind (arith, nat_tests) in
      let is : k ≡ 22 = omega arith in
      subst (λ (n : ℕ). Paints n i (row ∷ rows)) (sym is) (only_row row rows i are.0 (omega arith))

-- the body of rows ends below the last of them, or touches
painted : (lead : Lead) (rows : List (List ℕ)) → length rows ≤ 22 → AllByRecursion IsTextRow rows → Comes (has_double_height (row_22 rows)) (calm (Spot (40 * (1 + length rows)))) (paint_of lead (body_of_rows rows))
painted Clear rows few are = all_rows rows 1 2 are (omega arith) (omega arith)
painted Keep rows few are = all_rows rows 1 2 are (omega arith) (omega arith)

none_by : (d : Bool) (x y : AbsCursor) (p : Painted) → Comes d x p → p ≡ Clean y → d ≡ false
none_by true x y p h e = cc
none_by false x y p h e = refl

clean_by : (d : Bool) (x : AbsCursor) (p : Painted) → Comes d x p → d ≡ false → p ≡ Clean x
clean_by true x p h e = cc
clean_by false x p h e = h

pub rows_clean : RowsAreClean
rows_clean lead rows few are =
    let exact = is_exact lead (body_of_rows rows) in
    let below = calm (Spot (40 * (1 + length rows))) in
    let comes = painted lead rows few are in
    let d = has_double_height (row_22 rows) in
    let p = paint_of lead (body_of_rows rows) in (
      (λ clean. let end = exact.some_cursor clean in none_by d below end.0 p comes end.1),
      (λ free. ((exact.clean below).0 (clean_by d below p comes free)).0),
    )
