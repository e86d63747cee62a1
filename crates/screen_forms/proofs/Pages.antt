-- The lines of TTI.
use Rattle.std.proofs.Common.{◌≡◌, ◌∙◌, ◌<◌, ◌≤◌, ◌+◌, ◌-◌, ℕ, suc, true, false, List, [], ◌∷◌, ◌++◌, Result, Ok, Err, refl, ap, sym, subst, append_assoc, drop, get_or, length, set, take, arith}
use Rattle.std.specs.Prelude.{◌==◌}
use Rattle.std.proofs.lemmas.List.{append-nil, drop_all, drop_more, take_all, take_more_set}
use Rattle.std.proofs.lemmas.List.Splits.{length-slice_split}
use Rattle.page_ids.specs.Parts.{parts_of}
use Rattle.screen_forms.specs.Forms.{tti_row, tti_rows}
use Rattle.screen_forms.specs.Loops.{IsSheetRead, sheet_of}
use Rattle.screen_forms.specs.Sheets.{Sheet, after_cell, byte_from, text_of_line, first_cell, in_line, line_added, sheet_cells, then_lines, without_return}
use Rattle.screen_forms.specs.declared.sheets.SheetReader.{SheetReader}
use Rattle.screen_forms.specs.declared.text_screens.TextScreensFault.{TextScreensFault}
use Rattle.screen_forms.specs.declared.text_screens.TextScreensFault.TheVariants.{Line, Memory}
use Rattle.screen_forms.specs.declared.text_screens.FaultyLine.{FaultyLine}

pub rows_more : (screen : List ℕ) (n : ℕ) → n < 23 → tti_rows screen (23 - n) n ≡ tti_row screen n ++ tti_rows screen (23 - (n + 1)) (n + 1)
unfolding tti_rows
rows_more screen n lt =
    let left : 23 - n ≡ suc (23 - (n + 1)) = omega (arith, lt) in
    ap (λ (k : ℕ). tti_rows screen k n) left

pub rows_none : (screen : List ℕ) (n : ℕ) → 23 ≤ n → tti_rows screen (23 - n) n ≡ []
unfolding tti_rows
rows_none screen n le =
    let none : 23 - n ≡ 0 = omega (arith, le) in
    ap (λ (k : ℕ). tti_rows screen k n) none

-- Lines that are read.

-- a text has a line
some_part : (text : List ℕ) → 0 < length (parts_of 10 text)
some_part text = omega (arith, length-slice_split (λ b. b == 10) text)

ended : (l : List ℕ) (ls : List (List ℕ)) → 0 < length ls → text_of_line l ls ≡ without_return l
ended l [] some = absurd (omega arith)
ended l (m ∷ ms) some = refl

pub lines_err : (fault : FaultyLine) (line : ℕ) (ls : List (List ℕ)) → then_lines (Err fault) line ls ≡ Err fault
unfolding then_lines
lines_err fault line [] = refl
lines_err fault line (l ∷ ls) = lines_err fault (line + 1) ls

one_more : (s : Sheet) (line : ℕ) (l : List ℕ) (ls : List (List ℕ)) → 0 < length ls
    → then_lines (Ok s) line (l ∷ ls) ≡ then_lines (in_line line (line_added s line (without_return l))) (line + 1) ls
unfolding then_lines
one_more s line l ls some = ap (λ (t : List ℕ). then_lines (in_line line (line_added s line t)) (line + 1) ls) (ended l ls some)

pub lines_more : (s : Sheet) (line : ℕ) (all : List (List ℕ)) (l rest : List ℕ) → all ≡ l ∷ parts_of 10 rest
    → then_lines (Ok s) line all ≡ then_lines (in_line line (line_added s line (without_return l))) (line + 1) (parts_of 10 rest)
lines_more s line all l rest e = ap (then_lines (Ok s) line) e ∙ one_more s line l (parts_of 10 rest) (some_part rest)

pub lines_last : (s : Sheet) (line : ℕ) (all : List (List ℕ)) (l : List ℕ) → all ≡ l ∷ [] → then_lines (Ok s) line all ≡ in_line line (line_added s line l)
unfolding then_lines
lines_last s line all l e = rw e refl

module _ (s : Sheet) (line : ℕ) (all : List (List ℕ)) (l rest text : List ℕ) (whole : Result Sheet FaultyLine) (new : SheetReader)
    (before : then_lines (Ok s) line all ≡ whole) where
  more_by : all ≡ l ∷ parts_of 10 rest → text ≡ without_return l → then_lines (in_line line (line_added s line text)) (line + 1) (parts_of 10 rest) ≡ whole
  more_by parts is =
      ap (λ (t : List ℕ). then_lines (in_line line (line_added s line t)) (line + 1) (parts_of 10 rest)) is
      ∙ sym (lines_more s line all l rest parts)
      ∙ before

  pub fault_after : (fault : TextScreensFault) → all ≡ l ∷ parts_of 10 rest → text ≡ without_return l
      → IsSheetRead (in_line line (line_added s line text)) new (Err fault) → IsSheetRead whole new (Err fault)
  fault_after (Line f) parts is read =
      sym (more_by parts is) ∙ ap (λ (r : Result Sheet FaultyLine). then_lines r (line + 1) (parts_of 10 rest)) read ∙ lines_err f (line + 1) (parts_of 10 rest)
  fault_after Memory parts is read = tt

  pub sheet_after : (u : Unit {0}) → all ≡ l ∷ parts_of 10 rest → text ≡ without_return l
      → IsSheetRead (in_line line (line_added s line text)) new (Ok u) → then_lines (Ok (sheet_of new)) (line + 1) (parts_of 10 rest) ≡ whole
  sheet_after u parts is read =
      ap (λ (r : Result Sheet FaultyLine). then_lines r (line + 1) (parts_of 10 rest)) (sym read) ∙ more_by parts is

  pub sheet_at_last : (r : Result (Unit {0}) TextScreensFault) → all ≡ l ∷ []
      → IsSheetRead (in_line line (line_added s line l)) new r → IsSheetRead whole new r
  sheet_at_last r parts read =
      subst (λ (w : Result Sheet FaultyLine). IsSheetRead w new r) (sym (lines_last s line all l parts) ∙ before) read

-- Where a byte first is.

byte_hit : (byte at c : ℕ) (cs : List ℕ) → (c == byte) ≡ true → byte_from byte at (c ∷ cs) ≡ at
unfolding byte_from
byte_hit byte at c cs is = rw is refl

byte_miss : (byte at c : ℕ) (cs : List ℕ) → (c == byte) ≡ false → byte_from byte at (c ∷ cs) ≡ byte_from byte (at + 1) cs
unfolding byte_from
byte_miss byte at c cs is = rw is refl

pub byte_here : (byte at : ℕ) (text : List ℕ) → at < length text → (get_or text at 0 == byte) ≡ true → byte_from byte at (drop at text) ≡ at
byte_here byte at text inside is =
    subst (λ l. byte_from byte at l ≡ at) (sym (drop_more text at 0 inside)) (byte_hit byte at (get_or text at 0) (drop (at + 1) text) is)

pub byte_later : (byte at : ℕ) (text : List ℕ) → at < length text → (get_or text at 0 == byte) ≡ false → byte_from byte at (drop at text) ≡ byte_from byte (at + 1) (drop (at + 1) text)
byte_later byte at text inside is =
    subst (λ l. byte_from byte at l ≡ byte_from byte (at + 1) (drop (at + 1) text)) (sym (drop_more text at 0 inside)) (byte_miss byte at (get_or text at 0) (drop (at + 1) text) is)

pub byte_none : (byte at : ℕ) (text : List ℕ) → length text ≤ at → byte_from byte at (drop at text) ≡ at
unfolding byte_from
byte_none byte at text past = rw (drop_all at text past) refl

-- Cells.

one_cell : (n : ℕ) (text : List ℕ) → sheet_cells (suc n) text ≡ first_cell text ∷ sheet_cells n (after_cell text)
unfolding sheet_cells
one_cell n text = refl

no_cell : (text : List ℕ) → sheet_cells 0 text ≡ []
unfolding sheet_cells
no_cell text = refl

module _ (row left all : List ℕ) (n at : ℕ) (long : length row ≡ n) (before : take at row ++ sheet_cells (n - at) left ≡ all) where
  pub cell_more : (cell : ℕ) (rest : List ℕ) → at < n → cell ≡ first_cell left → rest ≡ after_cell left
      → take (at + 1) (set row at cell) ++ sheet_cells (n - (at + 1)) rest ≡ all
  cell_more cell rest lt is then =
      let inside : at < length row = omega (arith, lt, long) in
      let count : n - at ≡ suc (n - (at + 1)) = omega (arith, lt) in
      let cells : sheet_cells (n - at) left ≡ cell ∷ sheet_cells (n - (at + 1)) rest =
      ap (λ (k : ℕ). sheet_cells k left) count ∙ rw (is, then) (one_cell (n - (at + 1)) left) in
      ap (λ (xs : List ℕ). xs ++ sheet_cells (n - (at + 1)) rest) (take_more_set row at cell inside)
      ∙ append_assoc (take at row) (cell ∷ []) (sheet_cells (n - (at + 1)) rest)
      ∙ ap (λ (xs : List ℕ). take at row ++ xs) (sym cells)
      ∙ before

  pub cells_done : n ≤ at → row ≡ all
  cells_done past =
      let count : n - at ≡ 0 = omega (arith, past) in
      let whole : take at row ≡ row = take_all at row (omega (arith, past, long)) in
      let none : sheet_cells (n - at) left ≡ [] = ap (λ (k : ℕ). sheet_cells k left) count ∙ no_cell left in
      sym (append-nil row) ∙ ap (λ (xs : List ℕ). row ++ xs) (sym none) ∙ ap (λ (xs : List ℕ). xs ++ sheet_cells (n - at) left) (sym whole) ∙ before
