-- A screen of a call, read as a terminal reads.
use Rattle.std.proofs.Common.{◌≡◌, ℕ, ◌+◌, ◌-◌, ◌*◌, ◌/◌, ◌%◌, ◌^◌, ◌<◌, ◌≤◌, arith, refl, ap, ◌∙◌, Bool, true, false, List, [], ◌∷◌, ◌++◌, ◌==◌, nat_le, map, length, min, codes, decimal, append_assoc, length-append}
use Rattle.std.specs.Prelude as P
use Rattle.std.specs.List.{list_all}
use Rattle.std.specs.Fmt.{digits}
use Rattle.std.proofs.lemmas.Bool.{and_parts}
use Rattle.std.proofs.lemmas.Bool.Decides.{nat_tests}
use Rattle.std.proofs.lemmas.Fmt.{decimal_by_steps_wide}
use Rattle.screens.specs.declared.look.Look.{Look}
use Rattle.screens.specs.Looks.{looks}
use Rattle.screens.specs.Ansi.{unset, cell_bytes, pen_after, cells_bytes, ansi}
use Rattle.screens.specs.declared.ansi.Pen.{Pen}
use Rattle.screens.proofs.Safe.{all_append}
use Rattle.screens.proofs.Shows.{text_is_its_lines}
use Rattle.ansi_line.specs.AnsiLines.{erased, row_place, LinePlace, first_place, lines_placed, screen_bytes}
use Rattle.ansi_line.specs.AnsiReading.{Cell, Rendition, default, Mode, Characters, Numbers, AnsiRead, next_row, read_on, below_rows, ansi_read}
use Rattle.ansi_line.specs.Laws.{seen_cell, seen_cells, LeavesNothingSet, ScreenShows}
use Rattle.ansi_line.proofs.Marks.{OfTables}
use Rattle.ansi_line.proofs.Shown.{in_row, both, row_chars, reads_row, AllOfTables}
use Rattle.ansi_line.proofs.ReadBack.{Spells, spells_both, is_inside, is_low, low_spells, low_number, row_bytes, line_of_row, spells_row, reads_after, looks_of_tables}

-- The bytes.

abbrev line_at : ℕ → LinePlace
line_at n = record { row = n; begins = true }

abbrev within : ℕ → LinePlace
within n = record { row = n; begins = false }

-- within a line
inside_placed : (n : ℕ) (xs rest : List ℕ) → list_all is_inside xs ≡ true → lines_placed (within n) (xs ++ rest) ≡ xs ++ lines_placed (within n) rest
inside_placed n [] rest h = refl
inside_placed n (x ∷ xs) rest h =
    let parts = and_parts (is_inside x) (list_all is_inside xs) h in
    let here : (x == 10) ≡ false = grind (arith, nat_tests) in
    rw here (ap (λ (bs : List ℕ). x ∷ bs) (inside_placed n xs rest parts.1))

abbrev IsFilled : List ℕ → Type 0
IsFilled [] = ⊥
IsFilled (x ∷ xs) = Unit {0}

-- a line that isn't empty, after its place
line_placed : (n : ℕ) (xs rest : List ℕ) → IsFilled xs → list_all is_inside xs ≡ true → lines_placed (line_at n) (xs ++ rest) ≡ row_place n ++ xs ++ lines_placed (within n) rest
line_placed n [] rest f h = absurd f
line_placed n (x ∷ xs) rest f h =
    let parts = and_parts (is_inside x) (list_all is_inside xs) h in
    let here : (x == 10) ≡ false = grind (arith, nat_tests) in
    rw here (ap (λ (bs : List ℕ). (row_place n ++ x ∷ []) ++ bs) (inside_placed n xs rest parts.1) ∙ placed_first (row_place n) x xs (lines_placed (within n) rest)) where
      placed_first : (place : List ℕ) (x : ℕ) (xs end : List ℕ) → (place ++ x ∷ []) ++ (xs ++ end) ≡ place ++ x ∷ xs ++ end
      placed_first place x xs end = simp append_assoc

filled_append : (xs ys : List ℕ) → IsFilled ys → IsFilled (xs ++ ys)
filled_append [] ys h = h
filled_append (x ∷ xs) ys h = tt

row_filled : (p : Pen) (looks : List Look) → IsFilled (row_bytes p looks)
row_filled p [] = tt
row_filled p (a ∷ rest) = filled_append (cell_bytes p a) (row_bytes (pen_after p a) rest) (row_filled (pen_after p a) rest)

-- rows from row n on, each after its place and without its end
abbrev rows_bytes : ℕ → List (List Look) → List ℕ
rows_bytes n [] = []
rows_bytes n (row ∷ rows) = row_place n ++ row_bytes unset row ++ rows_bytes (n + 1) rows

row_placed : (n : ℕ) (row : List Look) (rest : List ℕ) → n + 1 ≤ 255 → P.All OfTables row → lines_placed (line_at n) (cells_bytes unset row ++ rest) ≡ row_place n ++ row_bytes unset row ++ lines_placed (line_at (n + 1)) rest
row_placed n row rest le h =
    let part = spells_row unset row h in
    let next : min (n + 1) 255 ≡ n + 1 = omega arith in
    let cut : cells_bytes unset row ++ rest ≡ row_bytes unset row ++ (10 ∷ rest) = ap (λ (bs : List ℕ). bs ++ rest) (line_of_row unset row) ∙ append_assoc (row_bytes unset row) (codes "\n") rest in
    ap (lines_placed (line_at n)) cut
    ∙ (line_placed n (row_bytes unset row) (10 ∷ rest) (row_filled unset row) part.inside
    ∙ ap (λ (k : ℕ). row_place n ++ row_bytes unset row ++ lines_placed (line_at k) rest) next)

rows_placed : (n : ℕ) (rows : List (List Look)) → n + length rows ≤ 255 → AllOfTables rows → lines_placed (line_at n) (ansi rows) ≡ rows_bytes n rows
rows_placed n [] le h = refl
rows_placed n (row ∷ rows) le h =
    row_placed n row (ansi rows) (omega arith) h.0 ∙ ap (λ (bs : List ℕ). row_place n ++ row_bytes unset row ++ bs) (rows_placed (n + 1) rows (omega arith) h.1)

-- The characters.

abbrev rows_chars : ℕ → List (List Look) → List ℕ
rows_chars n [] = []
rows_chars n (row ∷ rows) = row_place n ++ row_chars unset row ++ rows_chars (n + 1) rows

low_erased : (is_last : Bool) → list_all is_low (erased is_last) ≡ true
low_erased true = refl
low_erased false = refl

low_place : (n : ℕ) → list_all is_low (row_place n) ≡ true
low_place n = all_append is_low (codes "\u{1b}[" ++ decimal n ++ codes ";1H") (erased (n == 24)) (low_number (codes "\u{1b}[") n (codes ";1H") refl refl) (low_erased (n == 24))

spells_rows : (n : ℕ) (rows : List (List Look)) → AllOfTables rows → Spells (rows_chars n rows) (rows_bytes n rows)
spells_rows n [] h = (low_spells [] refl).spells
spells_rows n (row ∷ rows) h =
    spells_both (row_place n ++ row_chars unset row) (rows_chars (n + 1) rows) (row_place n ++ row_bytes unset row) (rows_bytes (n + 1) rows)
    (spells_both (row_place n) (row_chars unset row) (row_place n) (row_bytes unset row) (low_spells (row_place n) (low_place n)).spells (spells_row unset row h.0).spells)
    (spells_rows (n + 1) rows h.1)

-- Reading.

abbrev numbers : AnsiRead → List ℕ → ℕ → AnsiRead
numbers r before now = record r { mode = Numbers before now }

reads_digit : (r : AnsiRead) (before : List ℕ) (now d : ℕ) → d < 10 → read_on (numbers r before now) ((48 + d) ∷ []) ≡ numbers r before (10 * now + d)
reads_digit r before now d lt =
    let a : nat_le 48 (48 + d) ≡ true = grind (arith, nat_tests) in
    let b : nat_le (48 + d) 57 ≡ true = grind (arith, nat_tests) in
    let e : 48 + d - 48 ≡ d = omega arith in
    rw (a, b) (ap (λ (k : ℕ). numbers r before (10 * now + k)) e)

reads_number : (r : AnsiRead) (n : ℕ) → n < 10 ^ 64 → read_on (numbers r [] 0) (decimal n) ≡ numbers r [] n
reads_number r n lt = decimal_by_steps_wide (λ (k : ℕ) (ds : List ℕ). read_on (numbers r [] 0) ds ≡ numbers r [] k) one more n lt where
  one : (k : ℕ) → k < 10 → read_on (numbers r [] 0) ((48 + k) ∷ []) ≡ numbers r [] k
  one k small = reads_digit r [] 0 k small ∙ ap (numbers r []) (omega arith)

  more : (k : ℕ) (ds : List ℕ) → 10 ≤ k → read_on (numbers r [] 0) ds ≡ numbers r [] (k / 10) → read_on (numbers r [] 0) (ds ++ ((48 + k % 10) ∷ [])) ≡ numbers r [] k
  more k ds big h = both (numbers r [] 0) (numbers r [] (k / 10)) (numbers r [] k) ds ((48 + k % 10) ∷ []) h (reads_digit r [] (k / 10) (k % 10) (omega arith) ∙ ap (numbers r []) (omega arith))

reads_erased : (rows : List (List Cell)) (is_last : Bool) → read_on (below_rows rows) (erased is_last) ≡ below_rows rows
reads_erased rows true = refl
reads_erased rows false = refl

-- the place of the next row
reads_place : (rows : List (List Cell)) (row : List Cell) (n : ℕ) → n ≡ length rows + 2 → n < 10 ^ 64 → read_on (in_row rows row unset) (row_place n) ≡ below_rows (rows ++ row ∷ [])
reads_place rows row n e lt =
    let r = in_row rows row unset in
    let number : read_on r (codes "\u{1b}[" ++ decimal n) ≡ numbers r [] n = both r (numbers r [] 0) (numbers r [] n) (codes "\u{1b}[") (decimal n) refl (reads_number r n lt) in
    let here : (n == 1) ≡ false = grind (arith, nat_tests) in
    let next : (n == length rows + 2) ≡ true = grind (arith, nat_tests) in
    let above = below_rows (rows ++ row ∷ []) in
    let place = codes "\u{1b}[" ++ decimal n ++ codes ";1H" in
    let there : read_on r place ≡ above = both r (numbers r [] n) above (codes "\u{1b}[" ++ decimal n) (codes ";1H") number (rw (here, next) refl) in
    both r above above place (erased (n == 24)) there (reads_erased (rows ++ row ∷ []) (n == 24))

-- the place of the first row
reads_first : (rows : List (List Cell)) (row : List Cell) → read_on (in_row rows row unset) (row_place 1) ≡ below_rows []
unfolding digits
reads_first rows row = refl

reads_rows : (done : List (List Cell)) (cells : List Cell) (n : ℕ) (rows : List (List Look)) → n ≡ length done + 2 → n + length rows ≤ 255 → AllOfTables rows → next_row (read_on (in_row done cells unset) (rows_chars n rows)) ≡ below_rows (done ++ cells ∷ seen_cells rows)
reads_rows done cells n [] e le h = refl
reads_rows done cells n (row ∷ rows) e le h =
    let above = done ++ cells ∷ [] in
    let line : read_on (in_row done cells unset) (row_place n ++ row_chars unset row) ≡ in_row above (map seen_cell row) unset = both (in_row done cells unset) (below_rows above) (in_row above (map seen_cell row) unset) (row_place n) (row_chars unset row) (reads_place done cells n e (omega arith)) (reads_row above [] unset row h.0) in
    let more : length above ≡ length done + 1 = length-append done (cells ∷ []) in
    ap next_row (both (in_row done cells unset) (in_row above (map seen_cell row) unset) _ (row_place n ++ row_chars unset row) (rows_chars (n + 1) rows) line refl)
    ∙ (reads_rows above (map seen_cell row) (n + 1) rows (omega arith) (omega arith) h.1 ∙ ap below_rows (append_assoc done (cells ∷ []) (map seen_cell row ∷ seen_cells rows)))

-- wherever the cursor was
reads_all : (above : List (List Cell)) (cells : List Cell) (row : List Look) (rows : List (List Look)) → length rows ≤ 253 → AllOfTables (row ∷ rows) → next_row (read_on (in_row above cells unset) (rows_chars 1 (row ∷ rows))) ≡ below_rows (seen_cells (row ∷ rows))
reads_all above cells row rows le h =
    let r = in_row above cells unset in
    let line : read_on r (row_place 1 ++ row_chars unset row) ≡ in_row [] (map seen_cell row) unset = both r (below_rows []) (in_row [] (map seen_cell row) unset) (row_place 1) (row_chars unset row) (reads_first above cells) (reads_row [] [] unset row h.0) in
    ap next_row (both r (in_row [] (map seen_cell row) unset) _ (row_place 1 ++ row_chars unset row) (rows_chars 2 rows) line refl)
    ∙ reads_rows [] (map seen_cell row) 2 rows refl (omega arith) h.1

-- Screens.

ready_is : (mode : Mode) (rows : List (List Cell)) (row : List Cell) (set : Rendition) → mode ≡ Characters → set ≡ default → record { mode = mode; rows = rows; row = row; set = set } ≡ in_row rows row unset
ready_is mode rows row set h k = ap (λ (m : Mode). record { mode = m; rows = rows; row = row; set = set }) h ∙ ap (λ (s : Rendition). record { mode = Characters; rows = rows; row = row; set = s }) k

reads_placed : (before : List ℕ) (rows : List (List Look)) → 0 < length rows → length rows ≤ 254 → AllOfTables rows → LeavesNothingSet (ansi_read before) → next_row (ansi_read (before ++ lines_placed first_place (ansi rows))) ≡ below_rows (seen_cells rows)
reads_placed before [] lo hi h ready = absurd (omega arith)
reads_placed before (row ∷ rows) lo hi h ready =
    let all = row ∷ rows in
    let r = ansi_read before in
    let there : r ≡ in_row r.rows r.row unset = ready_is r.mode r.rows r.row r.set ready.mode ready.set in
    ap (λ (bs : List ℕ). next_row (ansi_read (before ++ bs))) (rows_placed 1 all (omega arith) h)
    ∙ (ap next_row (reads_after before (rows_chars 1 all) (rows_bytes 1 all) ready.mode (spells_rows 1 all h))
    ∙ (ap (λ (q : AnsiRead). next_row (read_on q (rows_chars 1 all))) there ∙ reads_all r.rows r.row row rows (omega arith) h))

pub screen_reads_back : (before cells : List ℕ) → LeavesNothingSet (ansi_read before) → ScreenShows before cells
screen_reads_back before cells ready =
    let height : length (looks cells) ≡ 24 = (text_is_its_lines cells).rows in
    let shows : next_row (ansi_read (before ++ screen_bytes cells)) ≡ below_rows (seen_cells (looks cells)) = reads_placed before (looks cells) (omega arith) (omega arith) (looks_of_tables cells) ready in
    record { shows = shows; ready = record { mode = ap (λ (r : AnsiRead). r.mode) shows; set = ap (λ (r : AnsiRead). r.set) shows } }
