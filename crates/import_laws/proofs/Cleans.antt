-- A body of a screen's rows is clean unless row 22 has a double height.
use Rattle.std.specs.Prelude.{◌↔◌}
use Rattle.std.proofs.Common.{◌≡◌, ℕ, zero, suc, ◌+◌, ◌-◌, ◌*◌, ◌%◌, ◌<◌, ◌≤◌, Bool, true, false, not, ◌&&◌, ◌||◌, ◌==◌, nat_lt, List, [], ◌∷◌, ◌++◌, length, map, take, drop, refl, sym, ap, ◌∙◌, inl, inr, arith, append_assoc}
use Rattle.std.proofs.lemmas.Bool.{cases_Bool, and_parts, or_parts}
use Rattle.std.proofs.lemmas.Bool.Decides.{nat_tests}
use Rattle.std.proofs.lemmas.List.Elements.{All-head, All-tail}
use Rattle.std.specs.List.{All, list_any, range_with_len}
use Rattle.terminal_codes.specs.Writes.{IsCode, in_service_row, in_row_22, is_double_height, is_service}
use Rattle.frame_records.specs.declared.frame.Lead.TheVariants.{Clear}
use Rattle.terminal_codes.specs.Bodies.{IsClean}
use Rattle.abstract_paint.specs.declared.cursor.Place.TheVariants.{Spot}
use Rattle.abstract_paint.specs.declared.cursor.AbsCursor.{AbsCursor}
use Rattle.abstract_paint.specs.declared.painting.Painted.TheVariants.{Clean, Touches}
use Rattle.abstract_paint.specs.Paint.{calm, paint_from, paint_of, is_cell_code, codes_fit}
use Rattle.abstract_paint.proofs.Codes.{codes_go_on, code_touches, goes_on, same_paint}
use Rattle.abstract_paint.proofs.Exact.{is_exact}
use Rattle.base_text.specs.Rows.{row_bytes, rows_bytes, body_of_rows}
use Rattle.screens.specs.Text.{before, trimmed}
use Rattle.screen_forms.specs.Laws.{IsSavedScreen}
use Rattle.screen_files.specs.Rows.{screen_row, last_row, rows_of}
use Rattle.import_laws.specs.Shown.{is_tall_in_row_22}
use Rattle.import_laws.proofs.Elements.{IsRow, screen_row_is, screen_rows_are, last_within, few_rows}

-- Codes in rows 1 to 22.

code_fits : (p c : ℕ) → IsCode c → 40 ≤ p → p < 920 → (is_double_height c && in_row_22 p) ≡ false → (is_cell_code c && not (is_service p c)) ≡ true
code_fits p c is low high apart =
    let cell : is_cell_code c ≡ true = grind (arith, nat_tests, is.0, is.1) in
    let inside : in_service_row p ≡ false = grind (arith, nat_tests, low, high) in
    rw (cell, inside, apart) refl

neither : (b : Bool) → (b && false) ≡ false
neither true = refl
neither false = refl

-- in rows 1 to 21
fit_above : (p : ℕ) (row : List ℕ) → All IsCode row → 40 ≤ p → p + length row ≤ 880 → codes_fit p row ≡ true
fit_above p [] all low high = refl
fit_above p (c ∷ cs) all low high =
    let above : in_row_22 p ≡ false = grind (arith, nat_tests, high) in
    let apart : (is_double_height c && in_row_22 p) ≡ false = rw above (neither (is_double_height c)) in
    rw (code_fits p c (All-head IsCode c cs all) low (omega (arith, high)) apart) (fit_above (p + 1) cs (All-tail IsCode c cs all) (omega (arith, low)) (omega (arith, high)))

-- in row 22
fit_last : (p : ℕ) (row : List ℕ) → All IsCode row → list_any is_double_height row ≡ false → 40 ≤ p → p + length row ≤ 920 → codes_fit p row ≡ true
fit_last p [] all none low high = refl
fit_last p (c ∷ cs) all none low high =
    let parts = or_parts (is_double_height c) (list_any is_double_height cs) none in
    let apart : (is_double_height c && in_row_22 p) ≡ false = rw parts.0 refl in
    rw (code_fits p c (All-head IsCode c cs all) low (omega (arith, high)) apart) (fit_last (p + 1) cs (All-tail IsCode c cs all) parts.1 (omega (arith, low)) (omega (arith, high)))

-- Rows.

-- back to the row's start and down (13, 10)
down_paint : (q i : ℕ) (rest : List ℕ) → paint_from (calm (Spot q)) i (13 ∷ 10 ∷ rest) ≡ paint_from (calm (Spot ((q - q % 40 + 40) % 960))) (i + 1 + 1) rest
down_paint q i rest = refl

-- row k + 1
row_paint : (k i : ℕ) (row rest : List ℕ) → k < 22 → IsRow row → codes_fit (40 * (k + 1)) row ≡ true
    → (j : ℕ) × (paint_from (calm (Spot (40 * (k + 1)))) i (row_bytes row ++ rest) ≡ paint_from (calm (Spot (40 * (k + 2)))) j rest)
row_paint k i row rest high is fits =
    let p = 40 * (k + 1) in
    let n = length row in
    elim (cases_Bool (nat_lt n 40)) [
      | inl short ↦
          let less : n < 40 = grind (arith, nat_tests, short) in
          let next : (p + n - (p + n) % 40 + 40) % 960 ≡ 40 * (k + 2) = omega (arith, less, high) in (
            i + n + 1 + 1,
            rw short (ap (paint_from (calm (Spot p)) i) (append_assoc row (13 ∷ 10 ∷ []) rest)
                ∙ codes_go_on row (13 ∷ 10 ∷ rest) p i fits
                ∙ down_paint (p + n) (i + n) rest
                ∙ same_paint ((p + n - (p + n) % 40 + 40) % 960) (40 * (k + 2)) (i + n + 1 + 1) (i + n + 1 + 1) rest next refl),
          )
      | inr not ↦
          let full : n ≡ 40 = let more : 40 ≤ n = grind (arith, nat_tests, not) in omega (arith, is.0, more) in
          (i + n, rw not (codes_go_on row rest p i fits ∙ same_paint (p + n) (40 * (k + 2)) (i + n) (i + n) rest (omega (arith, full)) refl))
    ]

-- a body that paints to an end
abbrev PaintsTo : ℕ → ℕ → List ℕ → Type 0
PaintsTo p i bytes = (x : AbsCursor) × (paint_from (calm (Spot p)) i bytes ≡ Clean x)

-- rows from k + 1 on, of which none is tall in row 22
abbrev rows_fit : ℕ → List (List ℕ) → Bool
rows_fit k [] = true
rows_fit k (row ∷ rows) = codes_fit (40 * (k + 1)) row && rows_fit (k + 1) rows

rows_paint : (k i : ℕ) (rows : List (List ℕ)) → k + length rows ≤ 22 → All IsRow rows → rows_fit k rows ≡ true → PaintsTo (40 * (k + 1)) i (rows_bytes rows)
rows_paint k i [] room all fit = (calm (Spot (40 * (k + 1))), refl)
rows_paint k i (row ∷ rows) room all fit =
    let parts = and_parts (codes_fit (40 * (k + 1)) row) (rows_fit (k + 1) rows) fit in
    let one = row_paint k i row (rows_bytes rows) (omega (arith, room)) (All-head IsRow row rows all) parts.0 in
    let more = rows_paint (k + 1) one.0 rows (omega (arith, room)) (All-tail IsRow row rows all) parts.1 in
    let at : 40 * (k + 2) ≡ 40 * (k + 1 + 1) = omega arith in
    (more.0, one.1 ∙ same_paint (40 * (k + 2)) (40 * (k + 1 + 1)) one.0 one.0 (rows_bytes rows) at refl ∙ more.1)

-- home and down (30, 10)
body_paint : (bytes : List ℕ) → paint_of Clear (30 ∷ 10 ∷ bytes) ≡ paint_from (calm (Spot 40)) 2 bytes
body_paint bytes = refl

pub clean_by : (rows : List (List ℕ)) → length rows ≤ 22 → All IsRow rows → rows_fit 0 rows ≡ true → IsClean Clear (body_of_rows rows)
clean_by rows room all fit =
    let paints = rows_paint 0 2 rows (omega (arith, room)) all fit in
    let clean : paint_of Clear (body_of_rows rows) ≡ Clean paints.0 = body_paint (rows_bytes rows) ∙ paints.1 in
    (((is_exact Clear (body_of_rows rows)).clean paints.0).0 clean).0

-- Those of a screen.

-- what is dropped is no double height
before_tall : (c : ℕ) (text : List ℕ) → list_any is_double_height (before c text) ≡ (is_double_height c || list_any is_double_height text)
before_tall c (d ∷ ds) = refl
before_tall c [] = elim (cases_Bool (c == 32)) [
  | inl space ↦ let low : is_double_height c ≡ false = grind (arith, nat_tests, space) in rw (space, low) refl
  | inr other ↦ rw other refl
]

trimmed_tall : (row : List ℕ) → list_any is_double_height (trimmed row) ≡ list_any is_double_height row
trimmed_tall [] = refl
trimmed_tall (c ∷ cs) = before_tall c (trimmed cs) ∙ ap (λ (b : Bool). is_double_height c || b) (trimmed_tall cs)

module _ (screen : List ℕ) (saved : IsSavedScreen screen) where
  -- a row fits at its place
  row_fits : (k : ℕ) → k < 22 → is_tall_in_row_22 screen ≡ false → codes_fit (40 * (k + 1)) (screen_row screen (k + 1)) ≡ true
  row_fits k high low =
      let is = screen_row_is screen (k + 1) saved in
      elim (cases_Bool (nat_lt k 21)) [
        | inl above ↦ fit_above (40 * (k + 1)) (screen_row screen (k + 1)) is.1 (omega arith) (let less : k < 21 = grind (arith, nat_tests, above) in omega (arith, is.0, less))
        | inr last ↦
            let at : k ≡ 21 = let more : 21 ≤ k = grind (arith, nat_tests, last) in omega (arith, high, more) in
            let none : list_any is_double_height (screen_row screen (k + 1)) ≡ false = ap (λ (n : ℕ). list_any is_double_height (screen_row screen (n + 1))) at ∙ trimmed_tall (take 40 (drop 880 screen)) ∙ low in
            fit_last (40 * (k + 1)) (screen_row screen (k + 1)) is.1 none (omega arith) (omega (arith, is.0, high))
      ]

  all_fit : (k n : ℕ) → k + n ≤ 22 → is_tall_in_row_22 screen ≡ false → rows_fit k (map (screen_row screen) (range_with_len (k + 1) n)) ≡ true
  all_fit k zero room low = refl
  all_fit k (suc n) room low = rw (row_fits k (omega (arith, room)) low) (all_fit (k + 1) n (omega (arith, room)) low)

-- A double height in row 22 touches.

tall_touches : (row : List ℕ) (p i : ℕ) (rest : List ℕ) → All IsCode row → list_any is_double_height row ≡ true → 880 ≤ p → p + length row ≤ 920
    → (j : ℕ) × (paint_from (calm (Spot p)) i (row ++ rest) ≡ Touches j)
tall_touches [] p i rest all tall low high = absurd (none tall) where
  none : false ≡ true → ⊥
  none e = cc
tall_touches (c ∷ cs) p i rest all tall low high =
    let is = All-head IsCode c cs all in
    let cell : is_cell_code c ≡ true = grind (arith, nat_tests, is.0, is.1) in
    let outside : in_service_row p ≡ false = grind (arith, nat_tests, low, high) in
    let inside : in_row_22 p ≡ true = grind (arith, nat_tests, low, high) in
    elim (cases_Bool (is_double_height c)) [
      | inl here ↦ (i, code_touches c (cs ++ rest) p i cell (rw (outside, here, inside) refl))
      | inr not ↦
          let more = tall_touches cs (p + 1) (i + 1) rest (All-tail IsCode c cs all) (rw not at tall) (omega (arith, low)) (omega (arith, high)) in
          (more.0, goes_on p c i (cs ++ rest) cell (rw (outside, not) refl) ∙ more.1)
    ]

bytes_touch : (row : List ℕ) (p i : ℕ) (rest : List ℕ) → All IsCode row → list_any is_double_height row ≡ true → 880 ≤ p → p + length row ≤ 920
    → (j : ℕ) × (paint_from (calm (Spot p)) i (row_bytes row ++ rest) ≡ Touches j)
bytes_touch row p i rest all tall low high =
    elim (cases_Bool (nat_lt (length row) 40)) [
      | inl short ↦
          let t = tall_touches row p i (13 ∷ 10 ∷ rest) all tall low high in
          (t.0, rw short (ap (paint_from (calm (Spot p)) i) (append_assoc row (13 ∷ 10 ∷ []) rest) ∙ t.1))
      | inr full ↦ let t = tall_touches row p i rest all tall low high in (t.0, rw full t.1)
    ]

module _ (screen : List ℕ) (saved : IsSavedScreen screen) (tall : is_tall_in_row_22 screen ≡ true) where
  row_is_tall : list_any is_double_height (screen_row screen 22) ≡ true
  row_is_tall = trimmed_tall (take 40 (drop 880 screen)) ∙ tall

  rows_touch : (k n i : ℕ) → k + n ≡ 21 → (j : ℕ) × (paint_from (calm (Spot (40 * (k + 1)))) i (rows_bytes (map (screen_row screen) (range_with_len (k + 1) (suc n)))) ≡ Touches j)
  rows_touch k zero i at =
      let last : k ≡ 21 = omega (arith, at) in
      let is = screen_row_is screen 22 saved in
      let t = bytes_touch (screen_row screen 22) 880 i [] is.1 row_is_tall (omega arith) (omega (arith, is.0)) in
      (t.0, ap (λ (m : ℕ). paint_from (calm (Spot (40 * (m + 1)))) i (row_bytes (screen_row screen (m + 1)) ++ [])) last ∙ t.1)
  rows_touch k (suc n) i at =
      let is = screen_row_is screen (k + 1) saved in
      let fits = fit_above (40 * (k + 1)) (screen_row screen (k + 1)) is.1 (omega arith) (omega (arith, is.0, at)) in
      let others = rows_bytes (map (screen_row screen) (range_with_len (k + 1 + 1) (suc n))) in
      let one = row_paint k i (screen_row screen (k + 1)) others (omega (arith, at)) is fits in
      let more = rows_touch (k + 1) n one.0 (omega (arith, at)) in
      let next : 40 * (k + 2) ≡ 40 * (k + 1 + 1) = omega arith in
      (more.0, one.1 ∙ same_paint (40 * (k + 2)) (40 * (k + 1 + 1)) one.0 one.0 others next refl ∙ more.1)

  last_is : last_row screen 22 ≡ 22
  unfolding last_row
  last_is = elim (cases_Bool (length (screen_row screen 22) == 0)) [
    | inl blank ↦ absurd (some_row (screen_row screen 22) row_is_tall blank)
    | inr some ↦ rw some refl
  ] where
    some_row : (row : List ℕ) → list_any is_double_height row ≡ true → (length row == 0) ≡ true → ⊥
    some_row [] is none = clash is where
      clash : false ≡ true → ⊥
      clash e = cc
    some_row (c ∷ cs) is none = absurd (grind (arith, nat_tests, none))

  not_clean : IsClean Clear (body_of_rows (rows_of screen)) → ⊥
  not_clean clean =
      let t = rows_touch 0 21 2 (omega arith) in
      let all : rows_of screen ≡ map (screen_row screen) (range_with_len 1 22) = ap (λ (n : ℕ). map (screen_row screen) (range_with_len 1 n)) last_is in
      let touches : paint_of Clear (body_of_rows (rows_of screen)) ≡ Touches t.0 =
      ap (λ (rows : List (List ℕ)). paint_of Clear (body_of_rows rows)) all ∙ body_paint (rows_bytes (map (screen_row screen) (range_with_len 1 22))) ∙ t.1 in
      let cursor = (is_exact Clear (body_of_rows (rows_of screen))).some_cursor clean in
      apart t.0 cursor.0 (sym touches ∙ cursor.1) where
        apart : (j : ℕ) (x : AbsCursor) → Touches j ≡ Clean x → ⊥
        apart j x e = cc

-- the rows of a screen are clean if and only if row 22 isn't tall
pub screen_clean : (screen : List ℕ) → IsSavedScreen screen → IsClean Clear (body_of_rows (rows_of screen)) ↔ (is_tall_in_row_22 screen ≡ false)
screen_clean screen saved = (only, clean) where
  only : IsClean Clear (body_of_rows (rows_of screen)) → is_tall_in_row_22 screen ≡ false
  only is = elim (cases_Bool (is_tall_in_row_22 screen)) [
    | inl tall ↦ absurd (not_clean screen saved tall is)
    | inr low ↦ low
  ]

  clean : is_tall_in_row_22 screen ≡ false → IsClean Clear (body_of_rows (rows_of screen))
  clean low = clean_by (rows_of screen) (few_rows screen) (screen_rows_are screen saved) (all_fit screen saved 0 (last_row screen 22) (omega (arith, last_within screen 22)) low)
