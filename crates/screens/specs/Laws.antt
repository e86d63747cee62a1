-- What the tables mean for whole rows and screens, and what the texts mean: read back, they are what the cells show.
use Rattle.std.specs.Prelude.{ℕ, Bool, true, false, List, ◌++◌, ◌≡◌, ◌≢◌, ◌<◌, ◌≤◌, ◌+◌, ◌-◌, ◌*◌, ◌⊎◌, All, map, get_or, set, if◌then◌else◌, not, [], ◌∷◌, ◌==◌, ◌&&◌, ◌||◌, Option, Some, None, codes, length}
use Rattle.screens.specs.declared.look.Colour.TheVariants.{Black, White}
use Rattle.screens.specs.declared.look.Glyph.{Glyph}
use Rattle.screens.specs.declared.look.Glyph.TheVariants.{Char, Block}
use Rattle.screens.specs.declared.look.Height.TheVariants.{Single}
use Rattle.screens.specs.declared.look.Look.{Look}
use Rattle.screens.specs.declared.look.Shown.TheVariants.{Ground}
use Rattle.screens.specs.Table.{character, six, start}
use Rattle.screens.specs.Looks.{row_looks, shown, codes_of_row, has_double, is_covered, looks_at, looks}
use Rattle.std.specs.List.{slice_split, list_all}
use Rattle.page_ids.specs.Ids.{Id}
use Rattle.screens.specs.declared.writing.Writing.TheVariants.{Plain, Markup}
use Rattle.screens.specs.Writing.{written}
use Rattle.screens.specs.Text.{seen_char, line, text}
use Rattle.screens.specs.Svg.{Piece, piece, svg_pieces, svg, picture_pieces, picture}
use Rattle.screens.specs.declared.look.Height.{Height}
use Rattle.screens.specs.Letters.{letter_drawn}
use Rattle.screens.specs.Outlines.{is_half_dot, half_row, outline, is_outline, is_inside}

-- The looks of a row.

-- two screens at row r
pub record RowsDecide (cells others : List ℕ) (r : ℕ) : Type 0 where
  -- if nothing covers it, they are decided by its own codes
  pub own : is_covered cells r ≡ false → is_covered others r ≡ false → codes_of_row cells r ≡ codes_of_row others r → looks_at cells r ≡ looks_at others r
  -- if the row above covers it, by that row's codes, whatever its own are
  pub covered : is_covered cells r ≡ true → is_covered others r ≡ true → codes_of_row cells (r - 1) ≡ codes_of_row others (r - 1) → looks_at cells r ≡ looks_at others r
  -- only a row with a double height that isn't covered itself covers the one beneath
  pub covers : is_covered cells r ≡ true → (has_double cells (r - 1) ≡ true) × (is_covered cells (r - 1) ≡ false)

abbrev pub EachRowDecides : Type 0
EachRowDecides = (cells others : List ℕ) (r : ℕ) → RowsDecide cells others r

-- Before the first attribute.

-- white on black, single, and each cell holds its own code's character
abbrev pub plain_look : ℕ → Look
plain_look c = record {
  glyph = Char (character c);
  foreground = White;
  background = Black;
  flash = false;
  concealed = false;
  height = Single;
}

-- what comes before the first attribute is plain, and what follows looks as if it began the row
abbrev pub PlainBefore : Type 0
PlainBefore = (can : Bool) (front rest : List ℕ) → All (λ c. c < 0x80) front → row_looks (start can) (front ++ rest) ≡ map plain_look front ++ row_looks (start can) rest

-- A code that is no attribute.

-- what a look is aside from what its cell holds
abbrev pub bare : Look → Look
bare a = record a { glyph = Char 0x20 }

-- the position whose code cell k of row r shows: its own, or if the row is covered the one above
abbrev pub source : List ℕ → ℕ → ℕ → ℕ
source cells r k = 40 * (if is_covered cells r then r - 1 else r) + k

-- row r, if position p holds d
pub record ChangesGlyphs (cells : List ℕ) (p d r : ℕ) : Type 0 where
  -- no colour, flash, concealment or height changes
  pub bare : map bare (looks_at (set cells p d) r) ≡ map bare (looks_at cells r)
  -- nor any look, but of the cell itself and its lower half, and of held mosaics, which attributes alone show
  pub looks : (k : ℕ) (a : Look) → k < 40 → source cells r k ≢ p → get_or cells (source cells r k) 0 < 0x80 → get_or (looks_at (set cells p d) r) k a ≡ get_or (looks_at cells r) k a

-- one character or mosaic in place of another
abbrev pub CharactersChangeGlyphs : Type 0
CharactersChangeGlyphs = (cells : List ℕ) (p d r : ℕ) → get_or cells p 0 < 0x80 → d < 0x80 → ChangesGlyphs cells p d r

-- What shows.

-- a concealed or blank cell shows only its background
abbrev pub GroundShows : Type 0
GroundShows = (a : Look) → (a.concealed ≡ true) ⊎ (a.glyph ≡ Char 0x20) → shown a ≡ Ground a.background

-- What cells hold.

-- a character of the table, or at least one of six blocks
abbrev pub IsOfTables : Glyph → Type 0
IsOfTables (Char k) = (c : ℕ) × (k ≡ character c)
IsOfTables (Block m) = (0 < six m.sextants) × (six m.sextants < 64)

-- each cell of every screen holds one of these
abbrev pub GlyphsAreOfTables : Type 0
GlyphsAreOfTables = (cells : List ℕ) (r : ℕ) → All (λ a. IsOfTables a.glyph) (looks_at cells r)

-- The text.

-- column c of a row's line is what its cell c shows; past its end are spaces
abbrev pub ColumnsShow : Type 0
ColumnsShow = (row : List Look) (c : ℕ) → get_or (line row) c 0x20 ≡ get_or (map seen_char row) c 0x20

-- and no space ends a line
abbrev pub NoSpaceEnds : Type 0
NoSpaceEnds = (row : List Look) (front : List ℕ) → line row ≡ front ++ 0x20 ∷ [] → ⊥

-- the text of a screen, cut at its newlines, is the lines of its 24 rows, and nothing after the last newline
pub record IsItsLines (cells : List ℕ) : Type 0 where
  pub lines : slice_split (λ k. k == 10) (text (looks cells)) ≡ map line (looks cells) ++ [] ∷ []
  pub rows : length (looks cells) ≡ 24

abbrev pub TextIsItsLines : Type 0
TextIsItsLines = (cells : List ℕ) → IsItsLines cells

-- Markup, read by a reader that knows nothing of screens.

-- from a text that begins outside of tags, or inside of one: the tag and the bytes after it up to now, and those to come
abbrev pub tags_reading : Bool → List ℕ → List ℕ → List ℕ → List Piece
tags_reading true tag raw [] = []
tags_reading false tag raw [] = piece tag raw ∷ []
tags_reading true tag raw (b ∷ bs) = if b == 0x3E then tags_reading false tag [] bs else tags_reading true (tag ++ b ∷ []) raw bs
tags_reading false tag raw (b ∷ bs) = if b == 0x3C then piece tag raw ∷ tags_reading true [] [] bs else tags_reading false tag (raw ++ b ∷ []) bs

-- the tags of a text that begins with one, each with the bytes after it, up to the next
abbrev pub tags_of : List ℕ → List Piece
tags_of [] = []
tags_of (b ∷ bs) = if b == 0x3C then tags_reading true [] [] bs else []

-- one of the references that markup has: its name between `&` and `;`, as the byte that it means
abbrev pub is_name : List ℕ → List ℕ → Bool
is_name [] [] = true
is_name [] (b ∷ bs) = false
is_name (a ∷ cs) [] = false
is_name (a ∷ cs) (b ∷ bs) = (a == b) && is_name cs bs

abbrev pub meant : List ℕ → List ℕ
meant name =
    if is_name name (codes "lt") then 0x3C ∷ []
    else if is_name name (codes "gt") then 0x3E ∷ []
    else if is_name name (codes "amp") then 0x26 ∷ []
    else if is_name name (codes "quot") then 0x22 ∷ []
    else if is_name name (codes "#39") then 0x27 ∷ []
    else []

-- bytes with what references mean in their places: outside of one, or after a part of its name
abbrev pub decoding : Option (List ℕ) → List ℕ → List ℕ
decoding None [] = []
decoding (Some name) [] = []
decoding None (b ∷ bs) = if b == 0x26 then decoding (Some []) bs else b ∷ decoding None bs
decoding (Some name) (b ∷ bs) = if b == 0x3B then meant name ++ decoding None bs else decoding (Some (name ++ b ∷ [])) bs

abbrev pub decoded : List ℕ → List ℕ
decoded bs = decoding None bs

-- a byte that opens or closes no tag and no value: not `<`, `>`, `"` or `'`
abbrev pub is_harmless : ℕ → Bool
is_harmless b = not (b == 0x3C || (b == 0x3E || (b == 0x22 || b == 0x27)))

-- characters of any base
pub record IsSafe (cs : List ℕ) : Type 0 where
  -- open and close nothing
  pub harmless : list_all is_harmless (written Markup cs) ≡ true
  -- and mean themselves
  pub decodes : decoded (written Markup cs) ≡ written Plain cs

abbrev pub CharactersAreSafe : Type 0
CharactersAreSafe = (cs : List ℕ) → IsSafe cs

-- a piece as it is read, its characters still as they were written
abbrev pub raw : Piece → Piece
raw p = piece p.tag (written Markup p.chars)

-- a picture of an HTML file, read as markup, has the tags that are written and no others, with the characters of the cells between
-- them
abbrev pub SvgReadsBack : Type 0
SvgReadsBack = (id : Id) (rows : List (List Look)) (cell : Option ℕ) → tags_of (svg id rows cell) ≡ map raw (svg_pieces id rows cell)

-- the form `svg` too, with its text
abbrev pub PictureReadsBack : Type 0
PictureReadsBack = (id : Id) (rows : List (List Look)) → tags_of (picture id rows) ≡ map raw (picture_pieces id rows)

-- The outlines.

-- the outline of a character at single height, or of one of its halves
pub record IsRounded (h : Height) (c : ℕ) : Type 0 where
  -- the outline can be read
  pub reads : is_outline (outline h c) ≡ true
  -- a unit of the cell is inside if and only if the dots, rounded, have it
  pub inside : (x y : ℕ) → x < 12 → y < 20 → is_inside (outline h c) x y ≡ is_half_dot (letter_drawn c).dots x (half_row h y)
  -- none beside the cell is, and none below it
  pub beside : (x y : ℕ) → 12 ≤ x → y < 20 → is_inside (outline h c) x y ≡ false
  pub below : (x y : ℕ) → 20 ≤ y → is_inside (outline h c) x y ≡ false

abbrev pub OutlinesAreRounded : Type 0
OutlinesAreRounded = (h : Height) (c : ℕ) → IsRounded h c
