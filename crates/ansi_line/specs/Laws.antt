-- What the form `ansi` means: read as a terminal reads, it shows the looks. So do the screens of a call.
use Rattle.std.specs.Prelude.{ℕ, false, List, ◌++◌, map, length, Option, Some, None, ◌≡◌, ◌≤◌, ◌↔◌}
use Rattle.std.specs.Prelude as P
use Rattle.screens.specs.declared.look.Glyph.{Glyph}
use Rattle.screens.specs.declared.look.Glyph.TheVariants.{Char, Block}
use Rattle.screens.specs.declared.look.Height.{Height}
use Rattle.screens.specs.declared.look.Height.TheVariants.{Single, Upper, Lower}
use Rattle.screens.specs.declared.look.Look.{Look}
use Rattle.screens.specs.declared.look.Shown.{Shown}
use Rattle.screens.specs.declared.look.Shown.TheVariants.{Ground, All}
use Rattle.screens.specs.Table.{six}
use Rattle.screens.specs.Looks.{shown, looks}
use Rattle.screens.specs.Ansi.{ansi}
use Rattle.ansi_line.specs.AnsiReading.{Mark, Letter, Blocks, Cell, default, AnsiRead, Characters, next_row, below_rows, ansi_read}
use Rattle.ansi_line.specs.AnsiLines.{screen_bytes}

-- What a terminal shows of a look. A space, a concealed cell and a lower half are all blank, whatever their foreground and flash; a
-- separated mosaic is as a contiguous one, and an upper half as a cell of single height. All else shows.

abbrev pub glyph_mark : Glyph → Mark
glyph_mark (Char c) = Letter c
glyph_mark (Block m) = Blocks (six m.sextants)

-- a lower half is blank
abbrev pub half_mark : Height → Glyph → Option Mark
half_mark Lower g = None
half_mark Single g = Some (glyph_mark g)
half_mark Upper g = Some (glyph_mark g)

-- a background alone is blank
abbrev pub shown_mark : Shown → Option Mark
shown_mark (Ground k) = None
shown_mark (All a) = half_mark a.height a.glyph

-- a blank cell has a background, and is steady; any other has both colours and the flash of its look
abbrev pub cell_with : Look → Option Mark → Cell
cell_with a None = record { ink = None; background = Some a.background; flash = false }
cell_with a (Some m) = record { ink = Some (record { mark = m; foreground = Some a.foreground }); background = Some a.background; flash = a.flash }

abbrev pub seen_cell : Look → Cell
seen_cell a = cell_with a (shown_mark (shown a))

abbrev pub seen_cells : List (List Look) → List (List Cell)
seen_cells rows = map (map seen_cell) rows

-- Screens that a terminal shows as the same cells.
abbrev pub SameToTheEye : List (List Look) → List (List Look) → Type 0
SameToTheEye rows others = seen_cells rows ≡ seen_cells others

-- The text of each screen shows its looks, cell by cell and row by row, and nothing else: all is read, and nothing stays set.
abbrev pub AnsiReadsBack : Type 0
AnsiReadsBack = (cells : List ℕ) → ansi_read (ansi (looks cells)) ≡ below_rows (seen_cells (looks cells))

-- These are 24 rows of at most 40 cells: they fit a terminal of 24 rows and 40 columns.
pub record AreScreenRows (rows : List (List Cell)) : Type 0 where
  pub height : length rows ≡ 24
  pub width : P.All (λ row. length row ≤ 40) rows

abbrev pub AnsiFits : Type 0
AnsiFits = (cells : List ℕ) → AreScreenRows (seen_cells (looks cells))

-- No more is lost: two screens have the same text if and only if they are the same to the eye.
abbrev pub AnsiTextsAgree : Type 0
AnsiTextsAgree = (cells others : List ℕ) → ansi (looks cells) ≡ ansi (looks others) ↔ SameToTheEye (looks cells) (looks others)

-- all was read as text, and nothing is set
pub record LeavesNothingSet (r : AnsiRead) : Type 0 where
  pub mode : r.mode ≡ Characters
  pub set : r.set ≡ default

-- A screen of a call shows the same after any text that leaves nothing set, and is such a text; the cursor stays in its last row.
pub record ScreenShows (before cells : List ℕ) : Type 0 where
  pub shows : next_row (ansi_read (before ++ screen_bytes cells)) ≡ below_rows (seen_cells (looks cells))
  pub ready : LeavesNothingSet (ansi_read (before ++ screen_bytes cells))

abbrev pub ScreenReadsBack : Type 0
ScreenReadsBack = (before cells : List ℕ) → LeavesNothingSet (ansi_read before) → ScreenShows before cells
