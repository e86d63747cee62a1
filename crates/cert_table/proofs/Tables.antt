-- No refusal applies if and only if rows make a table on the screen.
use Rattle.std.proofs.Common.{◌≡◌, ℕ, zero, suc, ◌+◌, ◌<◌, ◌≤◌, Bool, true, false, cond, ltb, List, [], ◌∷◌, length, get_or, Option, Some, None, refl, sym, ap, ◌∙◌, arith}
use native.Mathlib.Numerals.{unary_clauses}
use Rattle.std.specs.List.{AllAdjacentBelow}
use Rattle.std.specs.Ordering.{is_lt}
use Rattle.std.specs.declared.cmp.Ordering.TheVariants.{Less}
use Rattle.std.proofs.lemmas.Bool.Decides.{nat_tests}
use Rattle.page_ids.specs.Ids.{id_cmp}
use Rattle.abstract_paint.specs.declared.cursor.Place.{Place}
use Rattle.abstract_paint.specs.declared.cursor.Place.TheVariants.{Any, Col, Spot}
use Rattle.abstract_paint.specs.Paint.{OnScreen}
use Rattle.cert_table.specs.declared.row.Row.{Row}
use Rattle.cert_table.specs.declared.certificate.TableFault.{TableFault}
use Rattle.cert_table.specs.declared.certificate.TableFault.TheVariants.{TooMany, Range, Order}
use Rattle.cert_table.specs.Table.{AreRows, AreOnScreen, is_on_screen, comes_after, row_fault, or_later, rows_fault, table_fault}
use Rattle.page_ids.proofs.Truths.{less_is}

screen_is : (place : Place) → is_on_screen place ≡ true → OnScreen place
screen_is Any e = tt
screen_is (Col c) e = grind (arith, nat_tests)
screen_is (Spot s) e = grind (arith, nat_tests)

is_screen : (place : Place) → OnScreen place → is_on_screen place ≡ true
is_screen Any h = refl
is_screen (Col c) h = grind (arith, nat_tests)
is_screen (Spot s) h = grind (arith, nat_tests)

parts_of : (a b : Option TableFault) → or_later a b ≡ None → (a ≡ None) × (b ≡ None)
parts_of None b e = (refl, e)
parts_of (Some f) b e = absurd cc

fine_by : (i : ℕ) (s b : Bool) → cond s (cond b None (Some (Order i))) (Some (Range i)) ≡ None → (s ≡ true) × (b ≡ true)
fine_by i true true e = (refl, refl)
fine_by i true false e = absurd cc
fine_by i false b e = absurd cc

-- rows after another: each on the screen, the first after it, and ids ascend
pub record AreAfter (before : Option Row) (rows : List Row) : Type 0 where
  pub on_screen : AreOnScreen rows
  pub first : (d : Row) → 0 < length rows → comes_after before (get_or rows 0 d).id ≡ true
  pub ascending : AllAdjacentBelow (λ r s. id_cmp r.id s.id ≡ Less) rows (length rows)

screen_cons : (row : Row) (rows : List Row) → OnScreen row.cursor.place → AreOnScreen rows → AreOnScreen (row ∷ rows)
screen_cons row rows here there zero d lt = here
screen_cons row rows here there (suc k) d lt = there k d (omega arith)

ascend_cons : (row : Row) (rows : List Row) → AreAfter (Some row) rows → (k : ℕ) (d : Row) → suc k < suc (length rows) → id_cmp (get_or (row ∷ rows) k d).id (get_or rows k d).id ≡ Less
ascend_cons row rows h zero d lt = less_is (id_cmp row.id (get_or rows 0 d).id) (h.first d (omega arith))
ascend_cons row rows h (suc k) d lt = simp unary_clauses at (h.ascending k d (omega arith))

next_of : (row : Row) (rows : List Row) (k : ℕ) (d : Row) → get_or (row ∷ rows) (k + 1) d ≡ get_or rows k d
next_of row rows k d = ap (λ (n : ℕ). get_or (row ∷ rows) n d) (add_one_is k) where
  add_one_is : (k : ℕ) → k + 1 ≡ suc k
  add_one_is k = omega arith

ascends_from : (row : Row) (rows : List Row) → AreAfter (Some row) rows → AllAdjacentBelow (λ r s. id_cmp r.id s.id ≡ Less) (row ∷ rows) (suc (length rows))
ascends_from row rows h k d lt = ap (λ (r : Row). id_cmp (get_or (row ∷ rows) k d).id r.id) (next_of row rows k d) ∙ ascend_cons row rows h k d (omega arith)

pub after_of : (i : ℕ) (before : Option Row) (rows : List Row) → rows_fault i before rows ≡ None → AreAfter before rows
after_of i before [] e = record { on_screen = λ k d lt. absurd (omega arith); first = λ d lt. absurd (omega arith); ascending = λ k d lt. absurd (omega arith) }
after_of i before (row ∷ rows) e =
    let p = parts_of (row_fault i before row) (rows_fault (i + 1) (Some row) rows) e in
    let fine = fine_by i (is_on_screen row.cursor.place) (comes_after before row.id) p.0 in
    let rest = after_of (i + 1) (Some row) rows p.1 in
    record {
      on_screen = screen_cons row rows (screen_is row.cursor.place fine.0) rest.on_screen;
      first = λ d lt. fine.1;
      ascending = ascends_from row rows rest;
    }

tail_of : (before : Option Row) (row : Row) (rows : List Row) → AreAfter before (row ∷ rows) → AreAfter (Some row) rows
tail_of before row rows h = record {
  on_screen = λ k d lt. h.on_screen (suc k) d (omega arith);
  first = λ d lt. ap is_lt (ap (λ (r : Row). id_cmp row.id r.id) (sym (next_of row rows 0 d)) ∙ h.ascending 0 d (omega arith));
  ascending = λ k d lt. ascends_at k d lt;
} where
  ascends_at : (k : ℕ) (d : Row) → k + 1 < length rows → id_cmp (get_or rows k d).id (get_or rows (k + 1) d).id ≡ Less
  ascends_at k d lt =
      let here = next_of row rows k d in
      let there = next_of row rows (k + 1) d in
      ap (λ (r : Row). id_cmp r.id (get_or rows (k + 1) d).id) (sym here) ∙ ap (λ (r : Row). id_cmp (get_or (row ∷ rows) (k + 1) d).id r.id) (sym there) ∙ h.ascending (k + 1) d (omega arith)

pub none_of : (i : ℕ) (before : Option Row) (rows : List Row) → AreAfter before rows → rows_fault i before rows ≡ None
none_of i before [] h = refl
none_of i before (row ∷ rows) h =
    let s = is_screen row.cursor.place (h.on_screen 0 row (omega arith)) in
    let b = h.first row (omega arith) in
    rw (s, b) (none_of (i + 1) (Some row) rows (tail_of before row rows h))

few_by : (b : Bool) (o : Option TableFault) → cond b (Some TooMany) o ≡ None → (b ≡ false) × (o ≡ None)
few_by true o e = absurd cc
few_by false o e = (refl, e)

pub are_rows : (rows : List Row) → table_fault rows ≡ None → AreRows rows × AreOnScreen rows
are_rows rows e =
    let p = few_by (ltb 65535 (length rows)) (rows_fault 0 None rows) e in
    let few : length rows ≤ 65535 = grind (arith, nat_tests, p.0) in
    let h = after_of 0 None rows p.1 in
    (record { few = few; ascending = h.ascending }, h.on_screen)

pub no_fault : (rows : List Row) → AreRows rows × AreOnScreen rows → table_fault rows ≡ None
no_fault rows h =
    let small : length rows ≤ 65535 = h.0.few in
    let few : ltb 65535 (length rows) ≡ false = grind (arith, nat_tests) in
    rw few (none_of 0 None rows (record { on_screen = h.1; first = λ d lt. refl; ascending = h.0.ascending }))
