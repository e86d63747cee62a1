-- A frame that is made of a screen shows it.
use Rattle.std.proofs.Common.{◌≡◌, ◌∙◌, ◌<◌, ◌≤◌, ◌+◌, ◌-◌, ◌*◌, ◌%◌, ℕ, zero, suc, Bool, true, false, List, [], ◌∷◌, ◌++◌, Some, refl, sym, ap, subst, length, take, drop, replicate, set, nat_lt, ◌==◌, arith, append_assoc, add-one}
use Rattle.std.proofs.lemmas.Bool.Decides.{nat_tests}
use Rattle.std.proofs.lemmas.List.{append-nil, drop-drop, length-append, length-drop, length-replicate, length-take-le, nil_from_length, replicate-append-replicate}
use Rattle.std.proofs.lemmas.List.Elements.{All-drop, All-head, All-tail, All-take}
use Rattle.std.proofs.lemmas.List.FromFn.{map-range_with_len_more}
use Rattle.std.proofs.Math.Seq.{set-append_seam, take-add, take-append_seam}
use Rattle.std.specs.List.{All}
use Rattle.frame_records.specs.declared.frame.Lead.TheVariants.{Clear}
use Rattle.terminal_codes.specs.Screen.{Screen, high_code_of, byte_step, run}
use Rattle.terminal_codes.specs.Writes.{IsCode}
use Rattle.terminal_codes.specs.Bodies.{lead_codes}
use Rattle.terminal_codes.proofs.Runs.{run_append}
use Rattle.base_text.specs.Rows.{row_bytes, rows_bytes, body_of_rows}
use Rattle.screen_files.specs.Codes.{blank_codes}
use Rattle.screens.specs.Text.{before, trimmed}
use Rattle.screen_files.specs.Rows.{screen_row, last_row, rows_to, rows_of}
use Rattle.screen_forms.specs.Laws.{IsSavedScreen}
use Rattle.screen_files.specs.Laws.{rows_alone}

-- Rows without the spaces at their ends.

-- n spaces
abbrev spaces : ℕ → List ℕ
spaces n = replicate n 32

before_spaces : (c : ℕ) (text : List ℕ) (n : ℕ) → (k : ℕ) × (c ∷ (text ++ spaces n) ≡ before c text ++ spaces k)
before_spaces c (d ∷ ds) n = (n, refl)
before_spaces c [] n = by (c == 32) refl where
  by : (b : Bool) → (c == 32) ≡ b → (k : ℕ) × (c ∷ spaces n ≡ before c [] ++ spaces k)
  by true e = let is : c ≡ 32 = grind (arith, nat_tests) in (suc n, rw (is) refl)
  by false e = (n, rw e refl)

-- what is dropped is spaces
dropped : (row : List ℕ) → (k : ℕ) × (row ≡ trimmed row ++ spaces k)
dropped [] = (0, refl)
dropped (c ∷ cs) =
    let rest = dropped cs in
    let one = before_spaces c (trimmed cs) rest.0 in
    (one.0, ap (λ (xs : List ℕ). c ∷ xs) rest.1 ∙ one.1)

-- Codes on a terminal.

-- a terminal with these cells, at a position
abbrev on : Bool → List ℕ → ℕ → Screen
on visible cells at = record { cells = cells; at = at; pending = false; visible = visible }

code_stays : (c : ℕ) → IsCode c → high_code_of false c ≡ Some c
code_stays c is = by (nat_lt c 128) refl where
  by : (b : Bool) → nat_lt c 128 ≡ b → high_code_of false c ≡ Some c
  by true e = rw e refl
  by false e = let high : nat_lt c 160 ≡ true = grind (arith, nat_tests, is.1) in rw (e, high) refl

put_one : (v : Bool) (done rest : List ℕ) (c : ℕ) → IsCode c → length done + 1 < 960
    → byte_step (on v (done ++ 32 ∷ rest) (length done)) c ≡ on v ((done ++ c ∷ []) ++ rest) (length (done ++ c ∷ []))
put_one v done rest c is room =
    let not_low : nat_lt c 32 ≡ false = grind (arith, nat_tests, is.0) in
    let cells : set (done ++ 32 ∷ rest) (length done) c ≡ (done ++ c ∷ []) ++ rest =
    set-append_seam done 32 rest c ∙ sym (append_assoc done (c ∷ []) rest) in
    let at : (length done + 1) % 960 ≡ length (done ++ c ∷ []) = omega (arith, length-append done (c ∷ [])) in
    let put : byte_step (on v (done ++ 32 ∷ rest) (length done)) c
    ≡ on v (set (done ++ 32 ∷ rest) (length done) c) ((length done + 1) % 960) = rw (not_low, code_stays c is) refl in
    put ∙ ap (λ (xs : List ℕ). on v xs ((length done + 1) % 960)) cells ∙ ap (on v ((done ++ c ∷ []) ++ rest)) at

-- codes over blank cells
put_row : (v : Bool) (done row : List ℕ) (n m : ℕ) → All IsCode row → length done + length row < 960 → m ≡ length row + n
    → run (on v (done ++ spaces m) (length done)) row ≡ on v ((done ++ row) ++ spaces n) (length (done ++ row))
put_row v done [] n m all room is =
    let same : m ≡ n = omega (arith, is) in
    ap (λ (k : ℕ). on v (done ++ spaces k) (length done)) same
    ∙ ap (λ (xs : List ℕ). on v (xs ++ spaces n) (length xs)) (sym (append-nil done))
put_row v done (c ∷ cs) n m all room is =
    let some : m ≡ suc (length cs + n) = omega (arith, is) in
    let here = All-head IsCode c cs all in
    let one = put_one v done (spaces (length cs + n)) c here (omega (arith, room)) in
    let longer = length-append done (c ∷ []) in
    let rest = put_row v (done ++ c ∷ []) cs n (length cs + n) (All-tail IsCode c cs all) (omega (arith, room, longer)) refl in
    ap (λ (k : ℕ). run (on v (done ++ spaces k) (length done)) (c ∷ cs)) some
    ∙ ap (λ (t : Screen). run t cs) one
    ∙ rest
    ∙ ap (λ (xs : List ℕ). on v (xs ++ spaces n) (length xs)) (append_assoc done (c ∷ []) cs)

-- back to the start of a row, and one row down
row_end : (v : Bool) (cells : List ℕ) (at k n : ℕ) → n < 40 → k ≤ 22 → at ≡ 40 * k + n
    → run (on v cells at) (13 ∷ 10 ∷ []) ≡ on v cells (40 * (k + 1))
row_end v cells at k n short hi is =
    ap (λ (p : ℕ). on v cells ((p - p % 40 + 40) % 960)) is
    ∙ ap (on v cells) (let end : (40 * k + n - (40 * k + n) % 40 + 40) % 960 ≡ 40 * (k + 1) = omega arith in end)

put_bytes : (v : Bool) (done row : List ℕ) (k n m : ℕ) → All IsCode row → length row ≤ 40 → length done ≡ 40 * k → k ≤ 22
    → m ≡ length row + n
    → run (on v (done ++ spaces m) (length done)) (row_bytes row) ≡ on v ((done ++ row) ++ spaces n) (40 * (k + 1))
put_bytes v done row k n m all most long hi is = by (nat_lt (length row) 40) refl where
  put : run (on v (done ++ spaces m) (length done)) row ≡ on v ((done ++ row) ++ spaces n) (length (done ++ row))
  put = put_row v done row n m all (omega (arith, most, long, hi)) is

  by : (b : Bool) → nat_lt (length row) 40 ≡ b
      → run (on v (done ++ spaces m) (length done)) (row_bytes row) ≡ on v ((done ++ row) ++ spaces n) (40 * (k + 1))
  by true e =
      let short : length row < 40 = grind (arith, nat_tests) in
      let at : length (done ++ row) ≡ 40 * k + length row = omega (arith, length-append done row, long) in
      let bytes : row_bytes row ≡ row ++ 13 ∷ 10 ∷ [] = rw e refl in
      ap (run (on v (done ++ spaces m) (length done))) bytes
      ∙ run_append (on v (done ++ spaces m) (length done)) row (13 ∷ 10 ∷ [])
      ∙ ap (λ (t : Screen). run t (13 ∷ 10 ∷ [])) put
      ∙ row_end v ((done ++ row) ++ spaces n) (length (done ++ row)) k (length row) short hi at
  by false e =
      let full : 40 ≤ length row = grind (arith, nat_tests) in
      let at : length (done ++ row) ≡ 40 * (k + 1) = omega (arith, length-append done row, long, most, full) in
      let bytes : row_bytes row ≡ row = rw e refl in
      ap (run (on v (done ++ spaces m) (length done))) bytes ∙ put ∙ ap (on v ((done ++ row) ++ spaces n)) at

-- Rows of a screen.

bytes_more : (rows : List (List ℕ)) (row : List ℕ) → rows_bytes (rows ++ row ∷ []) ≡ rows_bytes rows ++ row_bytes row
bytes_more [] row = append-nil (row_bytes row)
bytes_more (r ∷ rows) row =
    ap (λ (xs : List ℕ). row_bytes r ++ xs) (bytes_more rows row) ∙ sym (append_assoc (row_bytes r) (rows_bytes rows) (row_bytes row))

raw : List ℕ → ℕ → List ℕ
raw screen row = take 40 (drop (40 * row) screen)

-- a blank row, and rows 1 to n
rows_down : List ℕ → ℕ → List ℕ
rows_down screen zero = blank_codes
rows_down screen (suc n) = rows_down screen n ++ raw screen (suc n)

module _ (screen : List ℕ) (saved : IsSavedScreen screen) where
  raw_length : (row : ℕ) → row ≤ 23 → length (raw screen row) ≡ 40
  unfolding raw
  raw_length row hi =
      length-take-le 40 (drop (40 * row) screen) (omega (arith, length-drop (40 * row) screen, saved.cells))

  raw_codes : (row : ℕ) → All IsCode (raw screen row)
  unfolding raw
  raw_codes row = All-take IsCode 40 (drop (40 * row) screen) (All-drop IsCode (40 * row) screen saved.codes)

  -- a row and the spaces that it dropped
  parts : (row : ℕ) → (k : ℕ) × (raw screen row ≡ screen_row screen row ++ spaces k)
  unfolding raw
  parts row = dropped (take 40 (drop (40 * row) screen))

  row_is_short : (row : ℕ) → row ≤ 23 → length (screen_row screen row) + (parts row).0 ≡ 40
  row_is_short row hi =
      let p = parts row in
      omega (arith, raw_length row hi, ap (λ (xs : List ℕ). length xs) p.1, length-append (screen_row screen row) (spaces p.0), length-replicate {A = ℕ} p.0 32)

  row_holds_codes : (row : ℕ) → All IsCode (screen_row screen row)
  row_holds_codes row =
      let p = parts row in
      let first = All-take IsCode (length (screen_row screen row)) (raw screen row) (raw_codes row) in
      subst (All IsCode) (ap (take (length (screen_row screen row))) p.1 ∙ take-append_seam (screen_row screen row) (spaces p.0)) first

  down_length : (n : ℕ) → n ≤ 22 → length (rows_down screen n) ≡ 40 * (n + 1)
  unfolding rows_down
  down_length zero hi = length-replicate {A = ℕ} 40 32
  down_length (suc n) hi =
      omega (arith, length-append (rows_down screen n) (raw screen (suc n)), down_length n (omega (arith, hi)), raw_length (suc n) (omega (arith, hi)))

  -- the cells below are blank
  abbrev cells_down : ℕ → List ℕ
  cells_down n = rows_down screen n ++ spaces (920 - 40 * n)

  -- a row's codes, and the spaces after them, are one row more
  one_more : (n : ℕ) → suc n ≤ 22
      → (rows_down screen n ++ screen_row screen (suc n)) ++ spaces ((parts (suc n)).0 + (920 - 40 * suc n)) ≡ cells_down (suc n)
  unfolding rows_down
  one_more n hi =
      let p = parts (suc n) in
      let left = 920 - 40 * suc n in
      let row = screen_row screen (suc n) in
      let above = rows_down screen n in
      ap (λ (xs : List ℕ). (above ++ row) ++ xs) (sym (replicate-append-replicate p.0 left 32))
      ∙ sym (append_assoc (above ++ row) (spaces p.0) (spaces left))
      ∙ ap (λ (xs : List ℕ). xs ++ spaces left) (append_assoc above row (spaces p.0) ∙ ap (λ (xs : List ℕ). above ++ xs) (sym p.1))

  more_rows : (n : ℕ) → rows_bytes (rows_to screen (suc n)) ≡ rows_bytes (rows_to screen n) ++ row_bytes (screen_row screen (suc n))
  more_rows n =
      let more = map-range_with_len_more (screen_row screen) 1 n (suc n) (omega arith) in
      ap (λ (k : ℕ). rows_bytes (rows_to screen k)) (sym (add-one n)) ∙ ap rows_bytes more ∙ bytes_more (rows_to screen n) (screen_row screen (suc n))

  module _ (v : Bool) where
    abbrev after : ℕ → Screen
    after n = run (on v (spaces 960) 40) (rows_bytes (rows_to screen n))

    painted : (n : ℕ) → n ≤ 22 → after n ≡ on v (cells_down n) (40 * (n + 1))
    unfolding rows_down
    painted zero hi = ap (λ (xs : List ℕ). on v xs 40) (sym (replicate-append-replicate 40 920 32))
    painted (suc n) hi =
        let above = painted n (omega (arith, hi)) in
        let long = down_length n (omega (arith, hi)) in
        let row = screen_row screen (suc n) in
        let left = (parts (suc n)).0 + (920 - 40 * suc n) in
        let short = row_is_short (suc n) (omega (arith, hi)) in
        let one = put_bytes v (rows_down screen n) row (n + 1) left (920 - 40 * n) (row_holds_codes (suc n)) (omega (arith, short)) long (omega (arith, hi)) (omega (arith, short, hi)) in
        let end : 40 * (n + 1 + 1) ≡ 40 * (suc n + 1) = omega arith in
        ap (run (on v (spaces 960) 40)) (more_rows n)
        ∙ run_append (on v (spaces 960) 40) (rows_bytes (rows_to screen n)) (row_bytes row)
        ∙ ap (λ (t : Screen). run t (row_bytes row)) (above ∙ ap (on v (cells_down n)) (sym long))
        ∙ one
        ∙ ap (λ (xs : List ℕ). on v xs (40 * (n + 1 + 1))) (one_more n hi)
        ∙ ap (on v (cells_down (suc n))) end

    -- blank rows at the end needn't be sent
    shown : (n : ℕ) → n ≤ 22 → (after (last_row screen n)).cells ≡ cells_down n
    unfolding last_row
    shown zero hi = ap (λ (t : Screen). t.cells) (painted zero hi)
    shown (suc n) hi = by (shown n (omega (arith, hi))) (length (screen_row screen (suc n)) == 0) refl where
      by : (after (last_row screen n)).cells ≡ cells_down n → (b : Bool) → (length (screen_row screen (suc n)) == 0) ≡ b → (after (last_row screen (suc n))).cells ≡ cells_down (suc n)
      by so_far false e = rw e (ap (λ (t : Screen). t.cells) (painted (suc n) hi))
      by so_far true e =
          let empty : length (screen_row screen (suc n)) ≡ 0 = grind (arith, nat_tests) in
          let none = nil_from_length (screen_row screen (suc n)) empty in
          let short = row_is_short (suc n) (omega (arith, hi)) in
          let above = rows_down screen n in
          let count : 920 - 40 * n ≡ (parts (suc n)).0 + (920 - 40 * suc n) = omega (arith, short, empty, hi) in
          let here = ap (λ (k : ℕ). above ++ spaces k) count
          ∙ ap (λ (xs : List ℕ). xs ++ spaces ((parts (suc n)).0 + (920 - 40 * suc n))) (sym (append-nil above) ∙ ap (λ (xs : List ℕ). above ++ xs) (sym none)) in
          rw e (so_far ∙ here ∙ one_more n hi)

  -- rows 1 to n are the codes from position 40 on
  flat : (n : ℕ) → rows_down screen n ≡ blank_codes ++ take (40 * n) (drop 40 screen)
  unfolding rows_down raw
  flat zero = sym (append-nil blank_codes)
  flat (suc n) =
      let rest = drop 40 screen in
      let there : 40 * suc n ≡ 40 + 40 * n = omega arith in
      let count : 40 * n + 40 ≡ 40 * suc n = omega arith in
      let row : take 40 (drop (40 * suc n) screen) ≡ take 40 (drop (40 * n) rest) =
      ap (λ (k : ℕ). take 40 (drop k screen)) there ∙ ap (take 40) (sym (drop-drop (40 * n) 40 screen)) in
      ap (λ (xs : List ℕ). xs ++ take 40 (drop (40 * suc n) screen)) (flat n)
      ∙ append_assoc blank_codes (take (40 * n) rest) (take 40 (drop (40 * suc n) screen))
      ∙ ap (λ (xs : List ℕ). blank_codes ++ (take (40 * n) rest ++ xs)) row
      ∙ ap (λ (xs : List ℕ). blank_codes ++ xs) (sym (take-add (40 * n) 40 rest))
      ∙ ap (λ (k : ℕ). blank_codes ++ take k rest) count

  shows : (v : Bool) → (run (on v (spaces 960) 40) (rows_bytes (rows_of screen))).cells ≡ rows_alone screen
  shows v = shown v 22 (omega arith) ∙ ap (λ (xs : List ℕ). xs ++ spaces 40) (flat 22)

pub frames_show : (t : Screen) (screen : List ℕ) → IsSavedScreen screen
    → (run (run t (lead_codes Clear)) (body_of_rows (rows_of screen))).cells ≡ rows_alone screen
frames_show t screen saved = shows screen saved t.visible
