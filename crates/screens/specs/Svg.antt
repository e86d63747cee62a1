-- Pictures: the form `svg`, and those of an HTML file. A cell is 12 units wide and 20 high.
use Rattle.std.specs.Prelude.{ℕ, Bool, true, false, List, [], ◌∷◌, ◌++◌, Option, Some, None, codes, decimal, map, length, get_or, ◌+◌, ◌*◌, ◌/◌, ◌%◌, ◌==◌, ◌&&◌, if◌then◌else◌}
use Rattle.std.specs.List.{flat_map, list_any}
use Rattle.std.specs.Option.{is_some}
use Rattle.page_ids.specs.Ids.{Id, frame_text}
use Rattle.screens.specs.declared.look.Colour.{Colour}
use Rattle.screens.specs.declared.look.Colour.TheVariants.{Black, Red, Green, Yellow, Blue, Magenta, Cyan, White}
use Rattle.screens.specs.declared.look.Glyph.{Glyph}
use Rattle.screens.specs.declared.look.Glyph.TheVariants.{Char, Block}
use Rattle.screens.specs.declared.look.Height.{Height}
use Rattle.screens.specs.declared.look.Height.TheVariants.{Single, Upper, Lower}
use Rattle.screens.specs.declared.look.Look.{Look}
use Rattle.screens.specs.declared.look.Shown.{Shown}
use Rattle.screens.specs.declared.look.Shown.TheVariants.{Ground, All}
use Rattle.screens.specs.Table.{colour_number}
use Rattle.screens.specs.Looks.{shown}
use Rattle.screens.specs.declared.layer.Ink.{Ink}
use Rattle.screens.specs.declared.layer.Layer.{Layer}
use Rattle.screens.specs.declared.layer.Layer.TheVariants.{Grounds, Mosaics, Letters}
use Rattle.screens.specs.declared.writing.Writing.TheVariants.{Markup}
use Rattle.screens.specs.Writing.{written}
use Rattle.screens.specs.Text.{seen_char, text}
use Rattle.screens.specs.Mosaics.{mosaics_path}
use Rattle.screens.specs.Outlines.{outline}

-- Markup.

-- a tag without its brackets, and the characters between it and the next one
pub record Piece : Type 0 where
  pub tag : List ℕ
  pub chars : List ℕ

abbrev pub piece : List ℕ → List ℕ → Piece
piece tag chars = record { tag = tag; chars = chars }

-- `<`, the tag, `>`, and the characters, with references
abbrev pub piece_bytes : Piece → List ℕ
piece_bytes p = codes "<" ++ p.tag ++ codes ">" ++ written Markup p.chars

unfoldable pub markup : List Piece → List ℕ
markup ps = flat_map piece_bytes ps

-- a newline, at the ends of elements
abbrev pub newline : List ℕ
newline = 10 ∷ []

-- ` name="n"`
unfoldable pub attribute : List ℕ → ℕ → List ℕ
attribute name n = codes " " ++ name ++ codes "=\"" ++ decimal n ++ codes "\""

-- the left upper corner
unfoldable pub corner : ℕ → ℕ → List ℕ
corner x y = attribute (codes "x") x ++ attribute (codes "y") y

-- as wide as this many cells
unfoldable pub svg_extent : ℕ → List ℕ
svg_extent count = attribute (codes "width") (12 * count) ++ codes " height=\"20\""

abbrev pub rgb : Colour → List ℕ
rgb Black = codes "#000"
rgb Red = codes "#f00"
rgb Green = codes "#0f0"
rgb Yellow = codes "#ff0"
rgb Blue = codes "#00f"
rgb Magenta = codes "#f0f"
rgb Cyan = codes "#0ff"
rgb White = codes "#fff"

unfoldable pub fill : Colour → List ℕ
fill k = codes " fill=\"" ++ rgb k ++ codes "\""

-- What each layer draws of a cell, and in which colour.

abbrev pub ink : Colour → Bool → Bool → Ink
ink k flash tall = record { colour = k; flash = flash; tall = tall }

-- a black background is that of the whole picture
abbrev pub ground_ink : Colour → Option Ink
ground_ink Black = None
ground_ink k = Some (ink k false false)

abbrev pub mosaic_ink : Look → Glyph → Option Ink
mosaic_ink a (Char c) = None
mosaic_ink a (Block m) = Some (ink a.foreground a.flash false)

-- a lower half has no letter
abbrev pub half_ink : Look → Height → Option Ink
half_ink a Single = Some (ink a.foreground a.flash false)
half_ink a Upper = Some (ink a.foreground a.flash true)
half_ink a Lower = None

abbrev pub letter_ink : Look → Glyph → Option Ink
letter_ink a (Char c) = half_ink a a.height
letter_ink a (Block m) = None

-- in what is shown
abbrev pub shown_ink : Layer → Shown → Option Ink
shown_ink Grounds (Ground k) = ground_ink k
shown_ink Grounds (All a) = ground_ink a.background
shown_ink Mosaics (Ground k) = None
shown_ink Mosaics (All a) = mosaic_ink a a.glyph
shown_ink Letters (Ground k) = None
shown_ink Letters (All a) = letter_ink a a.glyph

abbrev pub ink_of : Layer → Look → Option Ink
ink_of layer a = shown_ink layer (shown a)

abbrev pub is_same : Bool → Bool → Bool
is_same true b = b
is_same false true = false
is_same false false = true

abbrev pub same_ink : Option Ink → Option Ink → Bool
same_ink None None = true
same_ink None (Some j) = false
same_ink (Some i) None = false
same_ink (Some i) (Some j) = colour_number i.colour == colour_number j.colour && (is_same i.flash j.flash && is_same i.tall j.tall)

-- Runs of neighbouring cells in one ink, from column c of row r.

-- what flashes is in a group of its own
unfoldable pub flash_begin : List Piece
flash_begin =
    piece (codes "g class=\"flash\"") []
    ∷ piece (codes "animate attributeName=\"visibility\" values=\"visible;hidden\" calcMode=\"discrete\" dur=\"1s\" repeatCount=\"indefinite\"/") []
    ∷ []

unfoldable pub group_end : List Piece
group_end = piece (codes "/g") newline ∷ []

abbrev pub flashing : Bool → List Piece → List Piece
flashing true ps = flash_begin ++ ps ++ group_end
flashing false ps = ps

-- a background is a rectangle
unfoldable pub ground : ℕ → ℕ → List Look → Ink → List Piece
ground r c run i =
    piece (codes "rect" ++ corner (12 * c) (20 * r) ++ svg_extent (length run) ++ fill i.colour ++ codes "/") newline
    ∷ []

-- mosaics are a path
unfoldable pub mosaics : ℕ → ℕ → List Look → Ink → List Piece
mosaics r c run i = piece (codes "path" ++ fill i.colour ++ codes " d=\"" ++ mosaics_path (12 * c) (20 * r) run ++ codes "\"/") newline ∷ []

-- upper halves are letters of twice the height
abbrev pub stretched : Bool → ℕ → List ℕ
stretched true r = attribute (codes "y") (10 * r + 16) ++ codes " transform=\"scale(1 2)\""
stretched false r = attribute (codes "y") (20 * r + 16)

-- letters take 12 units each
unfoldable pub spacing : ℕ → List ℕ
spacing count = attribute (codes "textLength") (12 * count) ++ codes " lengthAdjust=\"spacingAndGlyphs\""

unfoldable pub letters_tag : ℕ → ℕ → ℕ → Ink → List ℕ
letters_tag r c count i =
    codes "text" ++ attribute (codes "x") (12 * c) ++ stretched i.tall r ++ spacing count ++ fill i.colour

unfoldable pub letters : ℕ → ℕ → List Look → Ink → List Piece
letters r c run i = piece (letters_tag r c (length run) i) (map seen_char run) ∷ piece (codes "/text") newline ∷ []

abbrev pub drawn : Layer → ℕ → ℕ → List Look → Ink → List Piece
drawn Grounds = ground
drawn Mosaics = mosaics
drawn Letters = letters

abbrev pub drawn_in : Layer → ℕ → ℕ → List Look → Option Ink → List Piece
drawn_in layer r c run None = []
drawn_in layer r c run (Some i) = flashing i.flash (drawn layer r c run i)

abbrev pub first_ink : Layer → List Look → Option Ink
first_ink layer [] = None
first_ink layer (a ∷ rest) = ink_of layer a

-- by the ink of its first cell
abbrev pub run_pieces : Layer → ℕ → ℕ → List Look → List Piece
run_pieces layer r c run = drawn_in layer r c run (first_ink layer run)

-- a cell goes on with a run, or begins one
abbrev pub run_goes_on : Layer → List Look → Look → Bool
run_goes_on layer run a = same_ink (ink_of layer (get_or run 0 a)) (ink_of layer a)

-- a run from column c that isn't ended yet, and the cells after it
abbrev pub row_pieces : Layer → ℕ → ℕ → List Look → List Look → List Piece
row_pieces layer r c run [] = run_pieces layer r c run
row_pieces layer r c run (a ∷ rest) =
    if run_goes_on layer run a then row_pieces layer r c (run ++ a ∷ []) rest
    else run_pieces layer r c run ++ row_pieces layer r (c + length run) (a ∷ []) rest

-- the rows from row r on
abbrev pub layer_pieces : Layer → ℕ → List (List Look) → List Piece
layer_pieces layer r [] = []
layer_pieces layer r (row ∷ rows) = row_pieces layer r 0 [] row ++ layer_pieces layer (r + 1) rows

-- A picture of an HTML file, with letters as texts.

unfoldable pub svg_begin : List Piece
svg_begin = piece (codes "svg xmlns=\"http://www.w3.org/2000/svg\" viewBox=\"0 0 480 480\" width=\"600\" height=\"480\" preserveAspectRatio=\"none\"") [] ∷ []

unfoldable pub svg_title : Id → List Piece
svg_title id = piece (codes "title") (frame_text id) ∷ piece (codes "/title") newline ∷ []

-- a black picture, backgrounds over it, and mosaics over them, without soft edges between them
unfoldable pub blocks_begin : List Piece
blocks_begin =
    piece (codes "g shape-rendering=\"crispEdges\"") newline
    ∷ piece (codes "rect width=\"480\" height=\"480\" fill=\"#000\"/") newline
    ∷ []

abbrev pub blocks : List (List Look) → List Piece
blocks rows = blocks_begin ++ layer_pieces Grounds 0 rows ++ layer_pieces Mosaics 0 rows ++ group_end

unfoldable pub texts_begin : List Piece
texts_begin = piece (codes "g font-family=\"DejaVu Sans Mono, Liberation Mono, Consolas, Menlo, monospace\" font-size=\"20\"") newline ∷ []

abbrev pub texts : List (List Look) → List Piece
texts rows = texts_begin ++ layer_pieces Letters 0 rows ++ group_end

-- a red frame round the cell at a position, if there is one
unfoldable pub touch_mark : Option ℕ → List Piece
touch_mark None = []
touch_mark (Some p) =
    piece (codes "rect class=\"touched\"" ++ corner (12 * (p % 40)) (20 * (p / 40)) ++ codes " width=\"12\" height=\"20\" fill=\"none\" stroke=\"#f00\" stroke-width=\"2\"/") newline
    ∷ []

unfoldable pub svg_foot : List Piece
svg_foot = piece (codes "/svg") newline ∷ []

-- the picture of a frame's screen, with a cell that is framed or not
abbrev pub svg_pieces : Id → List (List Look) → Option ℕ → List Piece
svg_pieces id rows cell = svg_begin ++ svg_title id ++ blocks rows ++ texts rows ++ touch_mark cell ++ svg_foot

abbrev pub svg : Id → List (List Look) → Option ℕ → List ℕ
svg id rows cell = markup (svg_pieces id rows cell)

-- The form `svg`, with letters as paths.

abbrev pub is_tall : Height → Bool
is_tall Single = false
is_tall Upper = true
is_tall Lower = true

-- both halves of a letter are of double height
abbrev pub outline_ink : Look → Ink
outline_ink a = ink a.foreground a.flash (is_tall a.height)

-- the character that a path in this ink draws of what a cell holds
abbrev pub char_drawn : Ink → Look → Glyph → Option ℕ
char_drawn i a (Block m) = None
char_drawn i a (Char c) = if same_ink (Some i) (Some (outline_ink a)) then Some c else None

abbrev pub char_in : Ink → Shown → Option ℕ
char_in i (Ground k) = None
char_in i (All a) = char_drawn i a a.glyph

-- the outline of a character in the cell at x and y
abbrev pub letter_path : ℕ → ℕ → Height → Option ℕ → List ℕ
letter_path x y h None = []
letter_path x y h (Some c) = codes "M" ++ decimal x ++ codes " " ++ decimal y ++ outline h c

-- the path of neighbouring cells, the first of them at x and y
abbrev pub letters_path : Ink → ℕ → ℕ → List Look → List ℕ
letters_path i x y [] = []
letters_path i x y (a ∷ rest) = letter_path x y a.height (char_in i (shown a)) ++ letters_path i (x + 12) y rest

-- the letters of the rows from row r on
abbrev pub screen_path : Ink → ℕ → List (List Look) → List ℕ
screen_path i r [] = []
screen_path i r (row ∷ rows) = letters_path i 0 (20 * r) row ++ screen_path i (r + 1) rows

-- letters in this ink are in some cell
abbrev pub row_has_ink : Ink → List Look → Bool
row_has_ink i row = list_any (λ a. is_some (char_in i (shown a))) row

abbrev pub has_ink : Ink → List (List Look) → Bool
has_ink i rows = list_any (row_has_ink i) rows

unfoldable pub outlines : Ink → List (List Look) → List Piece
outlines i rows = piece (codes "path" ++ fill i.colour ++ codes " d=\"" ++ screen_path i 0 rows ++ codes "\"/") newline ∷ []

-- one path for all letters in an ink, if there are any
unfoldable pub outlines_in : Ink → List (List Look) → List Piece
outlines_in i rows = if has_ink i rows then flashing i.flash (outlines i rows) else []

unfoldable pub first_colours : Bool → Bool → List (List Look) → List Piece
first_colours flash tall rows =
    outlines_in (ink Black flash tall) rows
    ++ outlines_in (ink Red flash tall) rows
    ++ outlines_in (ink Green flash tall) rows
    ++ outlines_in (ink Yellow flash tall) rows

unfoldable pub last_colours : Bool → Bool → List (List Look) → List Piece
last_colours flash tall rows =
    outlines_in (ink Blue flash tall) rows
    ++ outlines_in (ink Magenta flash tall) rows
    ++ outlines_in (ink Cyan flash tall) rows
    ++ outlines_in (ink White flash tall) rows

unfoldable pub all_colours : Bool → Bool → List (List Look) → List Piece
all_colours flash tall rows = first_colours flash tall rows ++ last_colours flash tall rows

unfoldable pub all_outlines : List (List Look) → List Piece
all_outlines rows = all_colours false false rows ++ all_colours false true rows ++ all_colours true false rows ++ all_colours true true rows

-- the text, for readers that speak
unfoldable pub svg_text : List (List Look) → List Piece
svg_text rows = piece (codes "desc") (text rows) ∷ piece (codes "/desc") newline ∷ []

abbrev pub picture_pieces : Id → List (List Look) → List Piece
picture_pieces id rows = svg_begin ++ svg_title id ++ svg_text rows ++ blocks rows ++ all_outlines rows ++ svg_foot

abbrev pub picture : Id → List (List Look) → List ℕ
picture id rows = markup (picture_pieces id rows)
