-- What a terminal is to show decides the text in the form `ansi`.
use Rattle.std.proofs.Common.{◌≡◌, ℕ, refl, sym, ap, ◌∙◌, subst, false, List, [], ◌∷◌, ◌++◌, map, Option, Some, None, codes}
use Rattle.std.specs.Prelude as P
use Rattle.std.specs.List.{flat_map}
use Rattle.std.proofs.lemmas.List.Elements.{All-head, All-tail}
use Rattle.screens.specs.declared.ansi.Pen.{Pen}
use Rattle.screens.specs.declared.look.Colour.{Colour}
use Rattle.screens.specs.declared.look.Colour.TheVariants.{Black}
use Rattle.screens.specs.declared.look.Glyph.TheVariants.{Char}
use Rattle.screens.specs.declared.look.Height.TheVariants.{Single}
use Rattle.screens.specs.declared.look.Look.{Look}
use Rattle.screens.specs.Looks.{shown, looks}
use Rattle.screens.specs.Text.{seen_char}
use Rattle.screens.specs.Ansi.{sgr, unset, cell_bytes, pen_after, cells_bytes, ansi}
use Rattle.ansi_line.specs.AnsiReading.{Mark, CellInk, Cell, AnsiRead, below_rows, ansi_read}
use Rattle.ansi_line.specs.Laws.{shown_mark, cell_with, seen_cell, seen_cells}
use Rattle.ansi_line.proofs.Marks.{mark_char, Draws, OfTables, draws}
use Rattle.ansi_line.proofs.Shown.{pen_by, AllOfTables}
use Rattle.ansi_line.proofs.ReadBack.{bytes_by, reads_ansi, looks_of_tables}

-- A look for a cell.

abbrev colour_back : Option Colour → Colour
colour_back None = Black
colour_back (Some k) = k

abbrev ink_colour : Option CellInk → Colour
ink_colour None = Black
ink_colour (Some i) = colour_back i.foreground

abbrev look_back : Cell → Look
look_back cell = record {
  glyph = Char 0x20;
  foreground = ink_colour cell.ink;
  background = colour_back cell.background;
  flash = cell.flash;
  concealed = false;
  height = Single;
}

abbrev char_back : Option CellInk → ℕ
char_back None = 0x20
char_back (Some i) = mark_char i.mark

-- its text, and what is set then
abbrev cell_written : Pen → Cell → List ℕ
cell_written p cell = bytes_by p (look_back cell) (char_back cell.ink)

abbrev pen_written : Pen → Cell → Pen
pen_written p cell = pen_by p (look_back cell) (char_back cell.ink)

same_bytes : (p : Pen) (a : Look) (m : Option Mark) (c : ℕ) → Draws m c → bytes_by p a c ≡ cell_written p (cell_with a m)
same_bytes p a None c d = subst (λ (k : ℕ). bytes_by p a k ≡ cell_written p (cell_with a None)) (sym d) refl
same_bytes p a (Some m) c d = subst (λ (k : ℕ). bytes_by p a k ≡ cell_written p (cell_with a (Some m))) d.char refl

same_pen : (p : Pen) (a : Look) (m : Option Mark) (c : ℕ) → Draws m c → pen_by p a c ≡ pen_written p (cell_with a m)
same_pen p a None c d = subst (λ (k : ℕ). pen_by p a k ≡ pen_written p (cell_with a None)) (sym d) refl
same_pen p a (Some m) c d = subst (λ (k : ℕ). pen_by p a k ≡ pen_written p (cell_with a (Some m))) d.char refl

-- Rows.

abbrev row_written : Pen → List Cell → List ℕ
row_written p [] = sgr 0 ++ codes "\n"
row_written p (cell ∷ rest) = cell_written p cell ++ row_written (pen_written p cell) rest

same_row : (p : Pen) (looks : List Look) → P.All OfTables looks → cells_bytes p looks ≡ row_written p (map seen_cell looks)
same_row p [] h = refl
same_row p (a ∷ rest) h =
    let d : Draws (shown_mark (shown a)) (seen_char a) = draws a (All-head OfTables a rest h) in
    let here : cell_bytes p a ≡ cell_written p (seen_cell a) = same_bytes p a (shown_mark (shown a)) (seen_char a) d in
    let next : pen_after p a ≡ pen_written p (seen_cell a) = same_pen p a (shown_mark (shown a)) (seen_char a) d in
    ap (λ (bs : List ℕ). bs ++ cells_bytes (pen_after p a) rest) here
    ∙ ap (λ (bs : List ℕ). cell_written p (seen_cell a) ++ bs) (same_row (pen_after p a) rest (All-tail OfTables a rest h) ∙ ap (λ (q : Pen). row_written q (map seen_cell rest)) next)

abbrev all_written : List (List Cell) → List ℕ
all_written rows = flat_map (row_written unset) rows

same_rows : (rows : List (List Look)) → AllOfTables rows → ansi rows ≡ all_written (seen_cells rows)
same_rows [] h = refl
same_rows (row ∷ rows) h =
    ap (λ (bs : List ℕ). bs ++ ansi rows) (same_row unset row h.0) ∙ ap (λ (bs : List ℕ). row_written unset (map seen_cell row) ++ bs) (same_rows rows h.1)

-- The laws.

pub ansi_reads_back : (cells : List ℕ) → ansi_read (ansi (looks cells)) ≡ below_rows (seen_cells (looks cells))
ansi_reads_back cells = reads_ansi (looks cells) (looks_of_tables cells)

pub same_cells : (cells others : List ℕ) → ansi (looks cells) ≡ ansi (looks others) → seen_cells (looks cells) ≡ seen_cells (looks others)
same_cells cells others h = ap (λ (r : AnsiRead). r.rows) (sym (ansi_reads_back cells) ∙ (ap ansi_read h ∙ ansi_reads_back others))

pub same_text : (cells others : List ℕ) → seen_cells (looks cells) ≡ seen_cells (looks others) → ansi (looks cells) ≡ ansi (looks others)
same_text cells others h = same_rows (looks cells) (looks_of_tables cells) ∙ (ap all_written h ∙ sym (same_rows (looks others) (looks_of_tables others)))
