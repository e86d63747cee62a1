-- A text in the form `ansi`, read as a terminal reads, shows its looks.
use Rattle.std.proofs.Common.{◌≡◌, ℕ, ◌+◌, arith, refl, sym, ap, ◌∙◌, subst, Bool, true, false, List, [], ◌∷◌, ◌++◌, ◌==◌, if◌then◌else◌, map, Option, Some, None, codes, append_assoc, append-nil}
use Rattle.std.specs.Prelude as P
use Rattle.std.specs.Fmt.{digits}
use Rattle.std.proofs.lemmas.Bool.{cond_both}
use Rattle.std.proofs.lemmas.Bool.Decides.{nat_tests}
use Rattle.std.proofs.lemmas.List.Elements.{All-head, All-tail}
use Rattle.screens.specs.declared.ansi.Pen.{Pen}
use Rattle.screens.specs.declared.look.Colour.{Colour}
use Rattle.screens.specs.declared.look.Colour.TheVariants.{Black, Red, Green, Yellow, Blue, Magenta, Cyan, White}
use Rattle.screens.specs.declared.look.Look.{Look}
use Rattle.screens.specs.Table.{colour_number}
use Rattle.screens.specs.Looks.{shown}
use Rattle.screens.specs.Text.{seen_char}
use Rattle.screens.specs.Ansi.{sgr, unset, ground_bytes, ink_bytes, flash_by, pen_after}
use Rattle.ansi_line.specs.AnsiReading.{colour_of_digit, Mark, Cell, Rendition, AnsiRead, Characters, ansi_step, read_on, below_rows}
use Rattle.ansi_line.specs.Laws.{shown_mark, cell_with, seen_cell, seen_cells}
use Rattle.ansi_line.proofs.Marks.{IsDrawn, Draws, OfTables, draws}

-- The state of a terminal.

abbrev pub set_of : Pen → Rendition
set_of p = record { foreground = p.foreground; background = p.background; flash = p.flash }

abbrev pen : Option Colour → Option Colour → Bool → Pen
pen f b flash = record { foreground = f; background = b; flash = flash }

-- in a row, after these cells
abbrev pub in_row : List (List Cell) → List Cell → Pen → AnsiRead
in_row rows row p = record { mode = Characters; rows = rows; row = row; set = set_of p }

pub read_append : (r : AnsiRead) (xs ys : List ℕ) → read_on r (xs ++ ys) ≡ read_on (read_on r xs) ys
read_append r [] ys = refl
read_append r (x ∷ xs) ys = read_append (ansi_step r x) xs ys

-- two parts after one another
pub both : (r s t : AnsiRead) (xs ys : List ℕ) → read_on r xs ≡ s → read_on s ys ≡ t → read_on r (xs ++ ys) ≡ t
both r s t xs ys h k = read_append r xs ys ∙ (ap (λ (q : AnsiRead). read_on q ys) h ∙ k)

-- Colours and flash.

sets_ground : (rows : List (List Cell)) (row : List Cell) (f b : Option Colour) (flash : Bool) (k : Colour) → read_on (in_row rows row (pen f b flash)) (sgr (40 + colour_number k)) ≡ in_row rows row (pen f (Some k) flash)
unfolding digits
sets_ground rows row f b flash Black = refl
sets_ground rows row f b flash Red = refl
sets_ground rows row f b flash Green = refl
sets_ground rows row f b flash Yellow = refl
sets_ground rows row f b flash Blue = refl
sets_ground rows row f b flash Magenta = refl
sets_ground rows row f b flash Cyan = refl
sets_ground rows row f b flash White = refl

sets_ink : (rows : List (List Cell)) (row : List Cell) (f b : Option Colour) (flash : Bool) (k : Colour) → read_on (in_row rows row (pen f b flash)) (sgr (30 + colour_number k)) ≡ in_row rows row (pen (Some k) b flash)
unfolding digits
sets_ink rows row f b flash Black = refl
sets_ink rows row f b flash Red = refl
sets_ink rows row f b flash Green = refl
sets_ink rows row f b flash Yellow = refl
sets_ink rows row f b flash Blue = refl
sets_ink rows row f b flash Magenta = refl
sets_ink rows row f b flash Cyan = refl
sets_ink rows row f b flash White = refl

number_back : (k : Colour) → colour_of_digit (colour_number k) ≡ k
number_back Black = refl
number_back Red = refl
number_back Green = refl
number_back Yellow = refl
number_back Blue = refl
number_back Magenta = refl
number_back Cyan = refl
number_back White = refl

-- a colour with the same number
same_colour : (j k : Colour) → (colour_number j == colour_number k) ≡ true → j ≡ k
same_colour j k h =
    let e : colour_number j ≡ colour_number k = grind (arith, nat_tests) in
    sym (number_back j) ∙ (ap colour_of_digit e ∙ number_back k)

reads_ground : (rows : List (List Cell)) (row : List Cell) (f b : Option Colour) (flash : Bool) (k : Colour) → read_on (in_row rows row (pen f b flash)) (ground_bytes (pen f b flash) k) ≡ in_row rows row (pen f (Some k) flash)
reads_ground rows row f None flash k = sets_ground rows row f None flash k
reads_ground rows row f (Some j) flash k =
    cond_both (colour_number j == colour_number k) [] (sgr (40 + colour_number k)) (λ (bs : List ℕ). read_on (in_row rows row (pen f (Some j) flash)) bs ≡ in_row rows row (pen f (Some k) flash))
    (λ e. ap (λ (i : Colour). in_row rows row (pen f (Some i) flash)) (same_colour j k e))
    (λ e. sets_ground rows row f (Some j) flash k)

reads_ink : (rows : List (List Cell)) (row : List Cell) (f b : Option Colour) (flash : Bool) (k : Colour) → read_on (in_row rows row (pen f b flash)) (ink_bytes (pen f b flash) k) ≡ in_row rows row (pen (Some k) b flash)
reads_ink rows row None b flash k = sets_ink rows row None b flash k
reads_ink rows row (Some j) b flash k =
    cond_both (colour_number j == colour_number k) [] (sgr (30 + colour_number k)) (λ (bs : List ℕ). read_on (in_row rows row (pen (Some j) b flash)) bs ≡ in_row rows row (pen (Some k) b flash))
    (λ e. ap (λ (i : Colour). in_row rows row (pen (Some i) b flash)) (same_colour j k e))
    (λ e. sets_ink rows row (Some j) b flash k)

reads_flash : (rows : List (List Cell)) (row : List Cell) (f b : Option Colour) (old new : Bool) → read_on (in_row rows row (pen f b old)) (flash_by old new) ≡ in_row rows row (pen f b new)
unfolding digits
reads_flash rows row f b true true = refl
reads_flash rows row f b true false = refl
reads_flash rows row f b false true = refl
reads_flash rows row f b false false = refl

-- Cells.

-- the characters of a cell that shows c, or a space
abbrev pub cell_chars : Pen → Look → ℕ → List ℕ
cell_chars p a c =
    if c == 0x20 then ground_bytes p a.background ++ flash_by p.flash false ++ codes " "
    else ground_bytes p a.background ++ ink_bytes p a.foreground ++ flash_by p.flash a.flash ++ c ∷ []

abbrev pub pen_by : Pen → Look → ℕ → Pen
pen_by p a c =
    if c == 0x20 then record { foreground = p.foreground; background = Some a.background; flash = false }
    else record { foreground = Some a.foreground; background = Some a.background; flash = a.flash }

-- what follows a cell
abbrev after_cell : List (List Cell) → List Cell → Pen → Look → ℕ → Cell → AnsiRead
after_cell rows row p a c cell = in_row rows (row ++ cell ∷ []) (pen_by p a c)

abbrev ReadsCell : List (List Cell) → List Cell → Pen → Look → Option Mark → ℕ → Type 0
ReadsCell rows row p a m c = read_on (in_row rows row p) (cell_chars p a c) ≡ after_cell rows row p a c (cell_with a m)

reads_blank : (rows : List (List Cell)) (row : List Cell) (f b : Option Colour) (flash : Bool) (a : Look) → ReadsCell rows row (pen f b flash) a None 0x20
reads_blank rows row f b flash a =
    both (in_row rows row (pen f b flash)) (in_row rows row (pen f (Some a.background) false)) (after_cell rows row (pen f b flash) a 0x20 (cell_with a None)) (ground_bytes (pen f b flash) a.background ++ flash_by flash false) (codes " ")
    (both (in_row rows row (pen f b flash)) (in_row rows row (pen f (Some a.background) flash)) (in_row rows row (pen f (Some a.background) false)) (ground_bytes (pen f b flash) a.background) (flash_by flash false) (reads_ground rows row f b flash a.background) (reads_flash rows row f (Some a.background) flash false))
    refl

-- a character is put into the next cell
puts : (rows : List (List Cell)) (row : List Cell) (a : Look) (m : Mark) (c : ℕ) → IsDrawn m c → read_on (in_row rows row (pen (Some a.foreground) (Some a.background) a.flash)) (c ∷ []) ≡ in_row rows (row ++ cell_with a (Some m) ∷ []) (pen (Some a.foreground) (Some a.background) a.flash)
puts rows row a m c d = rw (d.escape, d.line_end, d.control, d.mark) refl

reads_inked : (rows : List (List Cell)) (row : List Cell) (f b : Option Colour) (flash : Bool) (a : Look) (m : Mark) (c : ℕ) → IsDrawn m c → ReadsCell rows row (pen f b flash) a (Some m) c
reads_inked rows row f b flash a m c d =
    let p = pen f b flash in
    let front = ground_bytes p a.background ++ ink_bytes p a.foreground in
    let start = in_row rows row p in
    let grounded = in_row rows row (pen f (Some a.background) flash) in
    let inked = in_row rows row (pen (Some a.foreground) (Some a.background) flash) in
    let ready = in_row rows row (pen (Some a.foreground) (Some a.background) a.flash) in
    let end = in_row rows (row ++ cell_with a (Some m) ∷ []) (pen (Some a.foreground) (Some a.background) a.flash) in
    let colours : read_on start front ≡ inked = both start grounded inked (ground_bytes p a.background) (ink_bytes p a.foreground) (reads_ground rows row f b flash a.background) (reads_ink rows row f (Some a.background) flash a.foreground) in
    let set : read_on start (front ++ flash_by flash a.flash) ≡ ready = both start inked ready front (flash_by flash a.flash) colours (reads_flash rows row (Some a.foreground) (Some a.background) flash a.flash) in
    let all : read_on start (front ++ flash_by flash a.flash ++ c ∷ []) ≡ end = both start ready end (front ++ flash_by flash a.flash) (c ∷ []) set (puts rows row a m c d) in
    rw d.space all

reads_drawn : (rows : List (List Cell)) (row : List Cell) (p : Pen) (a : Look) (m : Option Mark) (c : ℕ) → Draws m c → ReadsCell rows row p a m c
reads_drawn rows row p a None c d = subst (ReadsCell rows row p a None) (sym d) (reads_blank rows row p.foreground p.background p.flash a)
reads_drawn rows row p a (Some m) c d = reads_inked rows row p.foreground p.background p.flash a m c d

-- Rows.

-- the characters of the rest of a row, without its line end
abbrev pub row_chars : Pen → List Look → List ℕ
row_chars p [] = sgr 0
row_chars p (a ∷ rest) = cell_chars p a (seen_char a) ++ row_chars (pen_after p a) rest

pub reads_row : (rows : List (List Cell)) (row : List Cell) (p : Pen) (looks : List Look) → P.All OfTables looks → read_on (in_row rows row p) (row_chars p looks) ≡ in_row rows (row ++ map seen_cell looks) unset
unfolding digits
reads_row rows row p [] h = ap (λ (cells : List Cell). in_row rows cells unset) (sym (append-nil row))
reads_row rows row p (a ∷ rest) h =
    both (in_row rows row p) (in_row rows (row ++ seen_cell a ∷ []) (pen_after p a)) (in_row rows (row ++ seen_cell a ∷ map seen_cell rest) unset) (cell_chars p a (seen_char a)) (row_chars (pen_after p a) rest)
    (reads_drawn rows row p a (shown_mark (shown a)) (seen_char a) (draws a (All-head OfTables a rest h)))
    (reads_row rows (row ++ seen_cell a ∷ []) (pen_after p a) rest (All-tail OfTables a rest h) ∙ ap (λ (cells : List Cell). in_row rows cells unset) (append_assoc row (seen_cell a ∷ []) (map seen_cell rest)))

-- looks of the tables alone
abbrev pub AllOfTables : List (List Look) → Type 0
AllOfTables [] = Unit {0}
AllOfTables (row ∷ rows) = P.All OfTables row × AllOfTables rows

-- rows with their line ends
abbrev pub all_chars : List (List Look) → List ℕ
all_chars [] = []
all_chars (row ∷ rows) = row_chars unset row ++ codes "\n" ++ all_chars rows

pub reads_rows : (done : List (List Cell)) (rows : List (List Look)) → AllOfTables rows → read_on (below_rows done) (all_chars rows) ≡ below_rows (done ++ seen_cells rows)
reads_rows done [] h = ap below_rows (sym (append-nil done))
reads_rows done (row ∷ rows) h =
    let cells = map seen_cell row in
    let line : read_on (below_rows done) (row_chars unset row ++ codes "\n") ≡ below_rows (done ++ cells ∷ []) = both (below_rows done) (in_row done cells unset) (below_rows (done ++ cells ∷ [])) (row_chars unset row) (codes "\n") (reads_row done [] unset row h.0) refl in
    both (below_rows done) (below_rows (done ++ cells ∷ [])) (below_rows (done ++ cells ∷ seen_cells rows)) (row_chars unset row ++ codes "\n") (all_chars rows) line
    (reads_rows (done ++ cells ∷ []) rows h.1 ∙ ap below_rows (append_assoc done (cells ∷ []) (seen_cells rows)))
