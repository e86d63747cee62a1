-- A TTI file that was written is read as its screen.
use Rattle.std.proofs.Common.{◌≡◌, ◌∙◌, ◌<◌, ◌≤◌, ◌+◌, ◌-◌, ◌*◌, ◌/◌, ◌%◌, ◌==◌, ◌&&◌, ℕ, zero, suc, Bool, true, false, not, List, [], ◌∷◌, ◌++◌, Option, Some, None, Result, Ok, refl, ap, sym, subst, append_assoc, drop, get_or, length, replicate, take, nat_le, nat_lt, arith}
use Rattle.std.specs.Fmt.{digits}
use Rattle.std.specs.Prelude.{codes, decimal}
use Rattle.std.specs.List.{All, flat_map, list_all}
use Rattle.std.proofs.Math.Seq.{drop-append-add, take-add, take-append_seam}
use Rattle.std.proofs.lemmas.Bool.{eqb-true}
use Rattle.std.proofs.lemmas.Bool.Decides.{nat_tests}
use Rattle.std.proofs.lemmas.Fmt.{decimal_digit, decimal_step}
use Rattle.std.proofs.lemmas.List.{drop-replicate, get_or-append-add, length-append, length-drop, length-take-le, replicate-append-replicate, take_at}
use Rattle.std.proofs.lemmas.List.Elements.{All-append, All-cons, All-drop, All-head, All-nil, All-tail, All-take}
use Rattle.std.proofs.lemmas.List.Splits.{slice_split_at}
use Rattle.base64.proofs.Tables.{all_below_at}
use Rattle.page_ids.specs.Ids.{Id, frame_text}
use Rattle.page_ids.specs.Parts.{parts_of}
use Rattle.page_ids.specs.Texts.{id_with, number_or_none, page_in}
use Rattle.page_ids.proofs.Digits.{all_decimal}
use Rattle.page_ids.proofs.IdTexts.{last_at, less_one, take_at_end}
use Rattle.page_ids.proofs.Numbers.{number_again}
use Rattle.terminal_codes.specs.Writes.{IsCode}
use Rattle.screen_forms.specs.Forms.{screen_row_codes, tti_bytes, tti_cell, tti_end, tti_name, tti_number, tti_page, tti_place, tti_row, tti_rows, tti_settings, tti_subpage}
use Rattle.screen_forms.specs.Laws.{IsSavedScreen, SheetsKeepScreens}
use Rattle.screen_forms.specs.Sheets.{Sheet, after_first_byte, after_cell, after_spaces, before_first_byte, byte_from, first_cell, in_line, line_added, no_page, row_number, sheet_cells, sheet_pages, then_lines, then_page, with_row, with_row_by, without_return}
use Rattle.screen_forms.specs.Words.{number_id, two_digits}
use Rattle.screen_forms.specs.declared.text_screens.FaultyLine.{FaultyLine}
use Rattle.screen_forms.specs.declared.text_screens.TextLineFault.{TextLineFault}
use Rattle.screen_forms.proofs.Pages.{lines_more}

-- Lines.

abbrev IsInLine : ℕ → Type 0
IsInLine b = (b == 10) ≡ false

abbrev IsLine : List ℕ → Type 0
IsLine l = All IsInLine l

-- bytes that are none of one byte
module _ (byte : ℕ) where
  abbrev IsOther : ℕ → Type 0
  IsOther b = (b == byte) ≡ false

  abbrev is_other : ℕ → Bool
  is_other b = not (b == byte)

  one_other : (b : ℕ) (bs : List ℕ) → (list_all is_other bs ≡ true → All IsOther bs) → list_all is_other (b ∷ bs) ≡ true → All IsOther (b ∷ bs)
  one_other b bs more = by (b == byte) refl where
    by : (c : Bool) → (b == byte) ≡ c → list_all is_other (b ∷ bs) ≡ true → All IsOther (b ∷ bs)
    by true is e = let none = rw is at e in absurd cc
    by false is e = All-cons IsOther b bs is (more (rw is at e))

  all_other : (l : List ℕ) → list_all is_other l ≡ true → All IsOther l
  all_other [] e = All-nil IsOther
  all_other (b ∷ bs) e = one_other b bs (all_other bs) e

is_line : (l : List ℕ) → list_all (λ b. not (b == 10)) l ≡ true → IsLine l
is_line l e = all_other 10 l e

return_gone : (l : List ℕ) → without_return (l ++ 13 ∷ []) ≡ l
return_gone l =
    let less = less_one l 13 in
    let last = last_at l 13 (length (l ++ 13 ∷ []) - 1) less in
    rw last (take_at_end l 13 (length (l ++ 13 ∷ []) - 1) less)

parts_first : (l rest : List ℕ) → IsLine l → parts_of 10 ((l ++ tti_end) ++ rest) ≡ (l ++ 13 ∷ []) ∷ parts_of 10 rest
parts_first l rest is =
    let shape = append_assoc l tti_end rest ∙ sym (append_assoc l (13 ∷ []) (10 ∷ rest)) in
    let line = All-append IsInLine l (13 ∷ []) is (All-cons IsInLine 13 [] refl (All-nil IsInLine)) in
    ap (parts_of 10) shape ∙ slice_split_at (λ b. b == 10) (l ++ 13 ∷ []) 10 rest line refl

read_line : (s : Sheet) (line : ℕ) (l rest : List ℕ) → IsLine l
    → then_lines (Ok s) line (parts_of 10 ((l ++ tti_end) ++ rest)) ≡ then_lines (in_line line (line_added s line l)) (line + 1) (parts_of 10 rest)
read_line s line l rest is =
    lines_more s line (parts_of 10 ((l ++ tti_end) ++ rest)) (l ++ 13 ∷ []) rest (parts_first l rest is)
    ∙ ap (λ (t : List ℕ). then_lines (in_line line (line_added s line t)) (line + 1) (parts_of 10 rest)) (return_gone l)

-- Cells.

plain_back : (c : ℕ) (rest : List ℕ) → 32 ≤ c → c < 128 → (first_cell (c ∷ rest) ≡ c) × (after_cell (c ∷ rest) ≡ rest)
plain_back c rest least most =
    let some : (length (c ∷ rest) == 0) ≡ false = grind (arith, nat_tests) in
    let plain : (c == 27) ≡ false = grind (arith, nat_tests, least) in
    let kept : (c == 16) ≡ false = grind (arith, nat_tests, least) in
    let low : nat_lt c 32 ≡ false = grind (arith, nat_tests, least) in
    let high : nat_lt c 160 ≡ true = grind (arith, nat_tests, most) in
    rw (some, plain, kept, low, high) (refl, refl)

escaped_back : (c : ℕ) (rest : List ℕ) → 64 ≤ c → c ≤ 95 → (first_cell (27 ∷ c ∷ rest) ≡ c + 64) × (after_cell (27 ∷ c ∷ rest) ≡ rest)
escaped_back c rest least most =
    let some : (length (27 ∷ c ∷ rest) == 0) ≡ false = grind (arith, nat_tests) in
    let first : nat_le 64 c ≡ true = grind (arith, nat_tests, least) in
    let last : nat_le c 95 ≡ true = grind (arith, nat_tests, most) in
    rw (some, first, last) (refl, refl)

cell_back : (c : ℕ) (rest : List ℕ) → IsCode c → (first_cell (tti_cell c ++ rest) ≡ c) × (after_cell (tti_cell c ++ rest) ≡ rest)
cell_back c rest is = by (nat_lt c 128) refl where
  by : (b : Bool) → nat_lt c 128 ≡ b → (first_cell (tti_cell c ++ rest) ≡ c) × (after_cell (tti_cell c ++ rest) ≡ rest)
  by true e = rw e (plain_back c rest is.0 (grind (arith, nat_tests, e)))
  by false e =
      let value : c - 64 + 64 ≡ c = grind (arith, nat_tests, e) in
      let b = escaped_back (c - 64) rest (grind (arith, nat_tests, e)) (grind (arith, nat_tests, is.1)) in
      rw e (b.0 ∙ value, b.1)

cells_back : (row : List ℕ) → All IsCode row → sheet_cells (length row) (flat_map tti_cell row) ≡ row
unfolding sheet_cells
cells_back [] are = refl
cells_back (c ∷ cs) are =
    let b = cell_back c (flat_map tti_cell cs) (All-head IsCode c cs are) in
    rw (b.0, b.1, cells_back cs (All-tail IsCode c cs are)) refl

cell_line : (c : ℕ) → IsCode c → IsLine (tti_cell c)
cell_line c is = by (nat_lt c 128) refl where
  by : (b : Bool) → nat_lt c 128 ≡ b → IsLine (tti_cell c)
  by true e =
      let other : IsInLine c = grind (arith, nat_tests, is.0) in
      rw e (All-cons IsInLine c [] other (All-nil IsInLine))
  by false e =
      let other : IsInLine (c - 64) = grind (arith, nat_tests, e) in
      rw e (All-cons IsInLine 27 ((c - 64) ∷ []) refl (All-cons IsInLine (c - 64) [] other (All-nil IsInLine)))

cells_line : (row : List ℕ) → All IsCode row → IsLine (flat_map tti_cell row)
cells_line [] are = All-nil IsInLine
cells_line (c ∷ cs) are =
    All-append IsInLine (tti_cell c) (flat_map tti_cell cs) (cell_line c (All-head IsCode c cs are)) (cells_line cs (All-tail IsCode c cs are))

-- Numbers.

decimal_line : (n : ℕ) → IsLine (decimal n)
decimal_line n = is_line (decimal n) (all_decimal (λ b. not (b == 10)) (λ d lt. grind (arith, nat_tests, lt)) n)

abbrev IsNoComma : ℕ → Type 0
IsNoComma b = (b == 44) ≡ false

decimal_comma : (n : ℕ) → All IsNoComma (decimal n)
decimal_comma n = all_other 44 (decimal n) (all_decimal (λ b. not (b == 44)) (λ d lt. grind (arith, nat_tests, lt)) n)

comma_at : (at : ℕ) (xs ys : List ℕ) → All IsNoComma xs → byte_from 44 at (xs ++ 44 ∷ ys) ≡ at + length xs
unfolding byte_from
comma_at at [] ys none = omega arith
comma_at at (x ∷ xs) ys none =
    rw (All-head IsNoComma x xs none) (comma_at (at + 1) xs ys (All-tail IsNoComma x xs none) ∙ omega arith)

before_comma : (xs ys : List ℕ) → All IsNoComma xs → before_first_byte 44 (xs ++ 44 ∷ ys) ≡ xs
before_comma xs ys none = ap (λ (k : ℕ). take k (xs ++ 44 ∷ ys)) (comma_at 0 xs ys none ∙ omega arith) ∙ take-append_seam xs (44 ∷ ys)

after_comma : (xs ys : List ℕ) → All IsNoComma xs → after_first_byte 44 (xs ++ 44 ∷ ys) ≡ ys
after_comma xs ys none = ap (λ (k : ℕ). drop (k + 1) (xs ++ 44 ∷ ys)) (comma_at 0 xs ys none ∙ omega arith) ∙ drop-append-add xs (44 ∷ ys) 1

abbrev is_number : ℕ → Option ℕ → Bool
is_number n None = false
is_number n (Some m) = m == n

some_number : (n : ℕ) (o : Option ℕ) → is_number n o ≡ true → o ≡ Some n
some_number n None e = absurd cc
some_number n (Some m) e = ap (λ (k : ℕ). Some k) (eqb-true m n e)

number_back : (n : ℕ) → n < 23 → row_number (decimal n) ≡ Some n
unfolding after_spaces byte_from digits
number_back n lt = some_number n (row_number (decimal n)) (all_below_at (λ k. is_number k (row_number (decimal k))) 23 n refl lt)

-- Rows.

abbrev sheet_with : Option Id → List ℕ → Sheet
sheet_with number codes = record { done = []; page = record { line = 2; beside = None; number = number; codes = codes }; begun = true }

abbrev row_text : ℕ → List ℕ → List ℕ
row_text n row = ((codes "OL," ++ decimal n) ++ 44 ∷ []) ++ flat_map tti_cell row

row_line : (n : ℕ) (row : List ℕ) → All IsCode row → IsLine (row_text n row)
row_line n row are =
    let comma = All-cons IsInLine 44 [] refl (All-nil IsInLine) in
    let name = All-append IsInLine (codes "OL,") (decimal n) (is_line (codes "OL,") refl) (decimal_line n) in
    All-append IsInLine ((codes "OL," ++ decimal n) ++ 44 ∷ []) (flat_map tti_cell row) (All-append IsInLine (codes "OL," ++ decimal n) (44 ∷ []) name comma) (cells_line row are)

row_read : (number : Option Id) (codes : List ℕ) (line n : ℕ) (row : List ℕ) → n < 23 → length row ≡ 40 → All IsCode row
    → line_added (sheet_with number codes) line (row_text n row) ≡ Ok (sheet_with number ((take (40 * n) codes ++ row) ++ drop (40 * n + 40) codes))
row_read number codes line n row lt long are =
    let s = sheet_with number codes in
    let cells = flat_map tti_cell row in
    let text = (decimal n ++ 44 ∷ []) ++ cells in
    let shape : text ≡ decimal n ++ 44 ∷ cells = append_assoc (decimal n) (44 ∷ []) cells in
    let none = decimal_comma n in
    let word : row_number (before_first_byte 44 text) ≡ Some n =
    ap (λ (t : List ℕ). row_number (before_first_byte 44 t)) shape ∙ ap row_number (before_comma (decimal n) cells none) ∙ number_back n lt in
    let after : after_first_byte 44 text ≡ cells = ap (after_first_byte 44) shape ∙ after_comma (decimal n) cells none in
    let inside : nat_lt n 24 ≡ true = grind (arith, nat_tests, lt) in
    let read : sheet_cells 40 cells ≡ row = ap (λ (k : ℕ). sheet_cells k cells) (sym long) ∙ cells_back row are in
    let put : with_row s n cells ≡ sheet_with number ((take (40 * n) codes ++ row) ++ drop (40 * n + 40) codes) =
    rw inside (ap (λ (r : List ℕ). sheet_with number ((take (40 * n) codes ++ r) ++ drop (40 * n + 40) codes)) read) in
    ap (λ (o : Option ℕ). with_row_by s o (after_first_byte 44 text)) word
    ∙ ap (λ (t : List ℕ). with_row_by s (Some n) t) after
    ∙ ap (λ (t : Sheet). let r : Result Sheet TextLineFault = Ok t in r) put

-- rows 0 to n - 1 of a screen
abbrev first_rows : List ℕ → ℕ → List ℕ
first_rows screen n = take (40 * n) screen ++ replicate (960 - 40 * n) 32

one_blank : (c : ℕ) (cs : List ℕ) → (list_all (λ c. c == 32) cs ≡ true → cs ≡ replicate (length cs) 32)
    → list_all (λ c. c == 32) (c ∷ cs) ≡ true → c ∷ cs ≡ 32 ∷ replicate (length cs) 32
one_blank c cs more = by (c == 32) refl where
  by : (b : Bool) → (c == 32) ≡ b → list_all (λ c. c == 32) (c ∷ cs) ≡ true → c ∷ cs ≡ 32 ∷ replicate (length cs) 32
  by true is e = rw (eqb-true c 32 is) (ap (λ (l : List ℕ). 32 ∷ l) (more (rw is at e)))
  by false is e = let none = rw is at e in absurd cc

blank_row : (row : List ℕ) → list_all (λ c. c == 32) row ≡ true → row ≡ replicate (length row) 32
blank_row [] e = refl
blank_row (c ∷ cs) e = one_blank c cs (blank_row cs) e

module _ (screen : List ℕ) (n : ℕ) (long : length screen ≡ 960) (lt : n < 23) where
  abbrev row : List ℕ
  row = screen_row_codes screen n

  one_more : take (40 * n) screen ++ row ≡ take (40 * (n + 1)) screen
  one_more =
      let count : 40 * n + 40 ≡ 40 * (n + 1) = omega arith in
      sym (take-add (40 * n) 40 screen) ∙ ap (λ (k : ℕ). take k screen) count

  placed_more : (take (40 * n) (first_rows screen n) ++ row) ++ drop (40 * n + 40) (first_rows screen n) ≡ first_rows screen (n + 1)
  placed_more =
      let some = take (40 * n) screen in
      let blank : List ℕ = replicate (960 - 40 * n) 32 in
      let fits : 40 * n ≤ length screen = omega (arith, long, lt) in
      let size : length some ≡ 40 * n = length-take-le (40 * n) screen fits in
      let count : 960 - 40 * n - 40 ≡ 960 - 40 * (n + 1) = omega (arith, lt) in
      let left : drop (40 * n + 40) (some ++ blank) ≡ replicate (960 - 40 * (n + 1)) 32 =
      ap (λ (k : ℕ). drop (k + 40) (some ++ blank)) (sym size)
      ∙ drop-append-add some blank 40
      ∙ drop-replicate 40 (960 - 40 * n) 32
      ∙ ap (λ (k : ℕ). replicate k 32) count in
      ap (λ (l : List ℕ). (l ++ row) ++ drop (40 * n + 40) (some ++ blank)) (take_at some blank (40 * n) size)
      ∙ ap (λ (l : List ℕ). l ++ drop (40 * n + 40) (some ++ blank)) one_more
      ∙ ap (λ (l : List ℕ). take (40 * (n + 1)) screen ++ l) left

  row_long : length row ≡ 40
  row_long =
      let enough : 40 ≤ length (drop (40 * n) screen) = omega (arith, long, lt, length-drop (40 * n) screen) in
      length-take-le 40 (drop (40 * n) screen) enough

  blank_more : list_all (λ c. c == 32) row ≡ true → first_rows screen n ≡ first_rows screen (n + 1)
  blank_more is =
      let count : 960 - 40 * n ≡ 40 + (960 - 40 * (n + 1)) = omega (arith, lt) in
      let blank : row ≡ replicate 40 32 = blank_row row is ∙ ap (λ (k : ℕ). replicate k 32) row_long in
      let rest = replicate (960 - 40 * (n + 1)) 32 in
      ap (λ (k : ℕ). take (40 * n) screen ++ replicate k 32) count
      ∙ ap (λ (l : List ℕ). take (40 * n) screen ++ l) (sym (replicate-append-replicate 40 (960 - 40 * (n + 1)) 32))
      ∙ ap (λ (l : List ℕ). take (40 * n) screen ++ (l ++ rest)) (sym blank)
      ∙ sym (append_assoc (take (40 * n) screen) row rest)
      ∙ ap (λ (l : List ℕ). l ++ rest) one_more

no_rows : (s : Sheet) (line : ℕ) → then_lines (Ok s) line (parts_of 10 []) ≡ Ok s
unfolding then_lines
no_rows s line = refl

rows_read : (number : Option Id) (screen : List ℕ) (k n line : ℕ) → IsSavedScreen screen → n + k ≡ 23
    → then_lines (Ok (sheet_with number (first_rows screen n))) line (parts_of 10 (tti_rows screen k n)) ≡ Ok (sheet_with number (first_rows screen 23))
unfolding tti_rows
rows_read number screen zero n line saved e =
    let all : n ≡ 23 = omega (arith, e) in
    no_rows (sheet_with number (first_rows screen n)) line
    ∙ ap (λ (m : ℕ). let r : Result Sheet FaultyLine = Ok (sheet_with number (first_rows screen m)) in r) all
rows_read number screen (suc k) n line saved e =
    next number screen k n line saved (omega (arith, e)) (λ l. rows_read number screen k (n + 1) l saved (omega (arith, e))) where
      next : (number : Option Id) (screen : List ℕ) (k n line : ℕ) → IsSavedScreen screen → n < 23
          → ((l : ℕ) → then_lines (Ok (sheet_with number (first_rows screen (n + 1)))) l (parts_of 10 (tti_rows screen k (n + 1))) ≡ Ok (sheet_with number (first_rows screen 23)))
          → then_lines (Ok (sheet_with number (first_rows screen n))) line (parts_of 10 (tti_row screen n ++ tti_rows screen k (n + 1))) ≡ Ok (sheet_with number (first_rows screen 23))
      next number screen k n line saved lt more = by (list_all (λ c. c == 32) (screen_row_codes screen n)) refl where
        by : (b : Bool) → list_all (λ c. c == 32) (screen_row_codes screen n) ≡ b
            → then_lines (Ok (sheet_with number (first_rows screen n))) line (parts_of 10 (tti_row screen n ++ tti_rows screen k (n + 1))) ≡ Ok (sheet_with number (first_rows screen 23))
        by true is =
            rw is (ap (λ (codes : List ℕ). then_lines (Ok (sheet_with number codes)) line (parts_of 10 (tti_rows screen k (n + 1)))) (blank_more screen n saved.cells lt is) ∙ more line)
        by false is =
            let row = screen_row_codes screen n in
            let codes = first_rows screen n in
            let are = All-take IsCode 40 (drop (40 * n) screen) (All-drop IsCode (40 * n) screen saved.codes) in
            let rest = tti_rows screen k (n + 1) in
            let read = row_read number codes line n row lt (row_long screen n saved.cells lt) are
            ∙ ap (λ (l : List ℕ). let r : Result Sheet TextLineFault = Ok (sheet_with number l) in r) (placed_more screen n saved.cells lt) in
            rw is (read_line (sheet_with number codes) line (row_text n row) rest (row_line n row are) ∙ ap (λ (r : Result Sheet TextLineFault). then_lines (in_line line r) (line + 1) (parts_of 10 rest)) read ∙ more (line + 1))

-- The lines before the rows.

three_digits : (p : ℕ) → 100 ≤ p → p ≤ 899 → length (decimal p) ≡ 3
three_digits p low high =
    let q = p / 10 in
    let r = p / 10 / 10 in
    let first : length (decimal p) ≡ length (decimal q) + 1 =
    ap (λ (l : List ℕ). length l) (decimal_step p (omega (arith, low)) (omega (arith, high))) ∙ length-append (decimal q) ((48 + p % 10) ∷ []) in
    let second : length (decimal q) ≡ length (decimal r) + 1 =
    ap (λ (l : List ℕ). length l) (decimal_step q (omega (arith, low)) (omega (arith, high))) ∙ length-append (decimal r) ((48 + q % 10) ∷ []) in
    let third : length (decimal r) ≡ 1 = ap (λ (l : List ℕ). length l) (decimal_digit r (omega (arith, high))) in
    omega (arith, first, second, third)

place_back : (letter : ℕ) → 97 ≤ letter → letter ≤ 122 → two_digits (48 + (letter - 96) / 10) (48 + (letter - 96) % 10) ≡ Some letter
place_back letter low high =
    let k = letter - 97 in
    let is : 97 + k ≡ letter = omega (arith, low) in
    let few : k < 26 = omega (arith, low, high) in
    let test = all_below_at (λ k. is_number (97 + k) (two_digits (48 + (97 + k - 96) / 10) (48 + (97 + k - 96) % 10))) 26 k refl few in
    subst (λ (l : ℕ). two_digits (48 + (l - 96) / 10) (48 + (l - 96) % 10) ≡ Some l) is (some_number (97 + k) (two_digits (48 + (97 + k - 96) / 10) (48 + (97 + k - 96) % 10)) test)

number_read : (p letter : ℕ) → 100 ≤ p → p ≤ 899 → 97 ≤ letter → letter ≤ 122 → number_id (decimal p ++ tti_place letter) ≡ Some (record { page = p; letter = letter })
number_read p letter low high first last =
    let place = tti_place letter in
    let a = 48 + (letter - 96) / 10 in
    let b = 48 + (letter - 96) % 10 in
    let text = decimal p ++ place in
    let three = three_digits p low high in
    let size : length text ≡ 5 = omega (arith, three, length-append (decimal p) place) in
    let not_short : (length text == 3) ≡ false = grind (arith, nat_tests, size) in
    let is_long : (length text == 5) ≡ true = grind (arith, nat_tests, size) in
    let page : page_in (take 3 text) ≡ Some p =
    ap page_in (take_at (decimal p) place 3 three) ∙ ap number_or_none (number_again 999999999 p (omega arith) (omega (arith, high))) in
    let fourth : get_or text 3 0 ≡ a = ap (λ (k : ℕ). get_or text (k + 0) 0) (sym three) ∙ get_or-append-add (decimal p) place 0 0 in
    let fifth : get_or text 4 0 ≡ b = ap (λ (k : ℕ). get_or text (k + 1) 0) (sym three) ∙ get_or-append-add (decimal p) place 1 0 in
    rw (not_short, is_long) (
    ap (λ (o : Option ℕ). id_with o (two_digits (get_or text 3 0) (get_or text 4 0))) page
    ∙ ap (λ (c : ℕ). id_with (Some p) (two_digits c (get_or text 4 0))) fourth
    ∙ ap (λ (c : ℕ). id_with (Some p) (two_digits a c)) fifth
    ∙ ap (λ (o : Option ℕ). id_with (Some p) o) (place_back letter first last)
    )

page_is : (page : ℕ) → (100 ≤ tti_page page) × (tti_page page ≤ 899)
page_is page = by (nat_le 100 page && nat_le page 899) refl where
  by : (b : Bool) → (nat_le 100 page && nat_le page 899) ≡ b → (100 ≤ tti_page page) × (tti_page page ≤ 899)
  by true e = rw e (grind (arith, nat_tests, e), grind (arith, nat_tests, e))
  by false e = rw e (omega arith, omega arith)

place_line : (letter : ℕ) → IsLine (tti_place letter)
place_line letter =
    let first : IsInLine (48 + (letter - 96) / 10) = grind (arith, nat_tests) in
    let second : IsInLine (48 + (letter - 96) % 10) = grind (arith, nat_tests) in
    All-cons IsInLine (48 + (letter - 96) / 10) ((48 + (letter - 96) % 10) ∷ []) first (All-cons IsInLine (48 + (letter - 96) % 10) [] second (All-nil IsInLine))

lines_apart : (a b c d e r : List ℕ) → (((a ++ b) ++ c) ++ (d ++ e)) ++ r ≡ a ++ (b ++ (c ++ (d ++ (e ++ r))))
lines_apart a b c d e r =
    append_assoc ((a ++ b) ++ c) (d ++ e) r
    ∙ append_assoc (a ++ b) c ((d ++ e) ++ r)
    ∙ append_assoc a b (c ++ ((d ++ e) ++ r))
    ∙ ap (λ (l : List ℕ). a ++ (b ++ (c ++ l))) (append_assoc d e r)

settings_are : tti_settings ≡ (codes "PS,8000" ++ tti_end) ++ (codes "RE,0" ++ tti_end)
unfolding tti_settings
settings_are = refl

pub kept : SheetsKeepScreens
kept id screen is saved =
    let p = tti_page id.page in
    let within = page_is id.page in
    let number : Option Id = Some (record { page = p; letter = id.letter }) in
    let first = codes "DE," ++ frame_text id in
    let second = (codes "PN," ++ decimal p) ++ tti_place id.letter in
    let third = codes "SC,00" ++ tti_place id.letter in
    let rows = tti_rows screen 23 0 in
    let after_fifth = rows in
    let after_fourth = (codes "RE,0" ++ tti_end) ++ after_fifth in
    let after_third = (codes "PS,8000" ++ tti_end) ++ after_fourth in
    let after_second = (third ++ tti_end) ++ after_third in
    let after_first = (second ++ tti_end) ++ after_second in
    let letter : IsInLine id.letter = grind (arith, nat_tests, is.letter.0) in
    let first_line = All-append IsInLine (codes "DE,") (frame_text id) (is_line (codes "DE,") refl) (All-append IsInLine (decimal id.page) (id.letter ∷ []) (decimal_line id.page) (All-cons IsInLine id.letter [] letter (All-nil IsInLine))) in
    let second_line = All-append IsInLine (codes "PN," ++ decimal p) (tti_place id.letter) (All-append IsInLine (codes "PN,") (decimal p) (is_line (codes "PN,") refl) (decimal_line p)) (place_line id.letter) in
    let third_line = All-append IsInLine (codes "SC,00") (tti_place id.letter) (is_line (codes "SC,00") refl) (place_line id.letter) in
    let page = sheet_with number (first_rows screen 0) in
    let whole : tti_bytes id screen ≡ (first ++ tti_end) ++ after_first =
    ap (λ (l : List ℕ). (((tti_name id ++ tti_number id) ++ tti_subpage id) ++ l) ++ rows) settings_are
    ∙ lines_apart (first ++ tti_end) (second ++ tti_end) (third ++ tti_end) (codes "PS,8000" ++ tti_end) (codes "RE,0" ++ tti_end) rows in
    ap (λ (t : List ℕ). sheet_pages (then_lines (Ok no_page) 1 (parts_of 10 t))) whole
    ∙ ap sheet_pages (
    read_line no_page 1 first after_first first_line
    ∙ read_line no_page 2 second after_second second_line
    ∙ ap (λ (o : Option Id). then_lines (in_line 2 (then_page no_page 2 o)) 3 (parts_of 10 after_second)) (number_read p id.letter within.0 within.1 is.letter.0 is.letter.1)
    ∙ read_line page 3 third after_third third_line
    ∙ read_line page 4 (codes "PS,8000") after_fourth (is_line (codes "PS,8000") refl)
    ∙ read_line page 5 (codes "RE,0") after_fifth (is_line (codes "RE,0") refl)
    ∙ rows_read number screen 23 0 6 saved refl
    )
