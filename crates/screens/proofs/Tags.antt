-- A picture read as markup.
use Rattle.std.proofs.Common.{◌≡◌, ℕ, ◌+◌, ◌*◌, ◌/◌, ◌%◌, arith, refl, sym, ap, ◌∙◌, Bool, true, false, ◌||◌, List, [], ◌∷◌, ◌++◌, ◌==◌, Option, Some, None, codes, decimal, map, length, append_assoc, append-nil}
use Rattle.std.specs.List.{list_all, flat_map}
use Rattle.std.proofs.lemmas.Bool.{and_parts, cond_both, or_parts}
use Rattle.std.proofs.lemmas.Bool.Decides.{nat_tests}
use Rattle.std.proofs.lemmas.List.Folds.{list_all-append}
use Rattle.page_ids.specs.Ids.{Id}
use Rattle.page_ids.proofs.Digits.{PassesDigits, all_decimal}
use Rattle.screens.specs.declared.look.Colour.{Colour}
use Rattle.screens.specs.declared.look.Colour.TheVariants.{Black, Red, Green, Yellow, Blue, Magenta, Cyan, White}
use Rattle.screens.specs.declared.look.Glyph.{Glyph}
use Rattle.screens.specs.declared.look.Glyph.TheVariants.{Char, Block}
use Rattle.screens.specs.declared.look.Height.{Height}
use Rattle.screens.specs.declared.look.Look.{Look}
use Rattle.screens.specs.declared.mosaic.Mosaic.{Mosaic}
use Rattle.screens.specs.Table.{six}
use Rattle.screens.specs.Looks.{shown}
use Rattle.screens.specs.declared.layer.Ink.{Ink}
use Rattle.screens.specs.declared.layer.Layer.{Layer}
use Rattle.screens.specs.declared.layer.Layer.TheVariants.{Grounds, Mosaics, Letters}
use Rattle.screens.specs.declared.mosaics.Third.{Third}
use Rattle.screens.specs.declared.mosaics.Third.TheVariants.{Top, Middle, Bottom}
use Rattle.screens.specs.declared.mosaics.Units.{Units}
use Rattle.screens.specs.declared.writing.Writing.TheVariants.{Markup}
use Rattle.screens.specs.Writing.{written}
use Rattle.screens.specs.Outlines.{outline}
use Rattle.screens.specs.Mosaics.{across, down, bits_of, rectangle, rectangles, part_path, mosaic_path, glyph_path, mosaics_path}
use Rattle.screens.specs.Svg.{Piece, piece, newline, piece_bytes, markup, attribute, corner, svg_extent, rgb, fill, flash_begin, group_end, flashing, ground, mosaics, stretched, spacing, letters_tag, letters, drawn, drawn_in, first_ink, run_pieces, run_goes_on, row_pieces, layer_pieces, svg_begin, svg_title, blocks_begin, blocks, texts_begin, texts, touch_mark, svg_foot, svg_pieces, svg, ink, char_in, letter_path, letters_path, screen_path, has_ink, outlines, outlines_in, first_colours, last_colours, all_colours, all_outlines, svg_text, picture_pieces, picture}
use Rattle.screens.specs.Laws.{tags_reading, tags_of, is_harmless, raw}
use Rattle.screens.proofs.Rounded.{inner_outline}
use Rattle.screens.proofs.Safe.{is_inner, all_append, harmless, first_of, rest_of}

-- Tags have no `<` and no `>`.

abbrev pub Inner : List ℕ → Type 0
Inner bs = list_all is_inner bs ≡ true

joined : (xs ys : List ℕ) → Inner xs → Inner ys → Inner (xs ++ ys)
joined xs ys h k = all_append is_inner xs ys h k

inner_decimal : (n : ℕ) → Inner (decimal n)
inner_decimal n = all_decimal is_inner inner_digit n where
  inner_digit : PassesDigits is_inner
  inner_digit d lt =
      let a : (48 + d == 0x3C) ≡ false = grind (arith, nat_tests) in
      let b : (48 + d == 0x3E) ≡ false = grind (arith, nat_tests) in
      rw (a, b) refl

inner_attribute : (name : List ℕ) (n : ℕ) → Inner name → Inner (attribute name n)
unfolding attribute
inner_attribute name n h =
    joined (codes " " ++ name ++ codes "=\"" ++ decimal n) (codes "\"") (joined (codes " " ++ name ++ codes "=\"") (decimal n) (joined (codes " " ++ name) (codes "=\"") (joined (codes " ") name refl h) refl) (inner_decimal n)) refl

inner_rgb : (k : Colour) → Inner (rgb k)
inner_rgb Black = refl
inner_rgb Red = refl
inner_rgb Green = refl
inner_rgb Yellow = refl
inner_rgb Blue = refl
inner_rgb Magenta = refl
inner_rgb Cyan = refl
inner_rgb White = refl

inner_fill : (k : Colour) → Inner (fill k)
unfolding fill
inner_fill k = joined (codes " fill=\"" ++ rgb k) (codes "\"") (joined (codes " fill=\"") (rgb k) refl (inner_rgb k)) refl

inner_corner : (x y : ℕ) → Inner (corner x y)
unfolding corner
inner_corner x y = joined (attribute (codes "x") x) (attribute (codes "y") y) (inner_attribute (codes "x") x refl) (inner_attribute (codes "y") y refl)

inner_extent : (n : ℕ) → Inner (svg_extent n)
unfolding svg_extent
inner_extent n = joined (attribute (codes "width") (12 * n)) (codes " height=\"20\"") (inner_attribute (codes "width") (12 * n) refl) refl

-- a literal before a number
put_number : (front : List ℕ) (n : ℕ) (last : List ℕ) → Inner front → Inner last → Inner (front ++ decimal n ++ last)
put_number front n last h k = joined (front ++ decimal n) last (joined front (decimal n) h (inner_decimal n)) k

inner_rectangle : (x y : ℕ) (wide high : Units) → Inner (rectangle x y wide high)
inner_rectangle x y wide high =
    put_number (codes "M" ++ decimal (x + wide.start) ++ codes " " ++ decimal (y + high.start) ++ codes "h" ++ decimal wide.size ++ codes "v" ++ decimal high.size ++ codes "h-") wide.size (codes "z")
    (put_number (codes "M" ++ decimal (x + wide.start) ++ codes " " ++ decimal (y + high.start) ++ codes "h" ++ decimal wide.size ++ codes "v") high.size (codes "h-")
    (put_number (codes "M" ++ decimal (x + wide.start) ++ codes " " ++ decimal (y + high.start) ++ codes "h") wide.size (codes "v")
    (put_number (codes "M" ++ decimal (x + wide.start) ++ codes " ") (y + high.start) (codes "h")
    (put_number (codes "M") (x + wide.start) (codes " ") refl refl) refl) refl) refl) refl

inner_wide : (x y : ℕ) (wide : List Units) (high : Units) → Inner (flat_map (λ w. rectangle x y w high) wide)
inner_wide x y [] high = refl
inner_wide x y (w ∷ wide) high = joined (rectangle x y w high) (flat_map (λ v. rectangle x y v high) wide) (inner_rectangle x y w high) (inner_wide x y wide high)

inner_rectangles : (x y : ℕ) (wide : List Units) (high : Option Units) → Inner (rectangles x y wide high)
inner_rectangles x y wide None = refl
inner_rectangles x y wide (Some high) = inner_wide x y wide high

inner_part : (x y : ℕ) (height : Height) (m : Mosaic) (part : Third) → Inner (part_path x y height m part)
inner_part x y height m part = inner_rectangles x y (across m.separated (bits_of part (six m.sextants))) (down m.separated height part)

inner_mosaic : (x y : ℕ) (height : Height) (m : Mosaic) → Inner (mosaic_path x y height m)
inner_mosaic x y height m =
    joined (part_path x y height m Top ++ part_path x y height m Middle) (part_path x y height m Bottom) (joined (part_path x y height m Top) (part_path x y height m Middle) (inner_part x y height m Top) (inner_part x y height m Middle)) (inner_part x y height m Bottom)

inner_glyph : (x y : ℕ) (height : Height) (g : Glyph) → Inner (glyph_path x y height g)
inner_glyph x y height (Char c) = refl
inner_glyph x y height (Block m) = inner_mosaic x y height m

inner_mosaics : (x y : ℕ) (run : List Look) → Inner (mosaics_path x y run)
inner_mosaics x y [] = refl
inner_mosaics x y (a ∷ rest) = joined (glyph_path x y a.height a.glyph) (mosaics_path (x + 12) y rest) (inner_glyph x y a.height a.glyph) (inner_mosaics (x + 12) y rest)

inner_stretched : (tall : Bool) (r : ℕ) → Inner (stretched tall r)
inner_stretched true r = joined (attribute (codes "y") (10 * r + 16)) (codes " transform=\"scale(1 2)\"") (inner_attribute (codes "y") (10 * r + 16) refl) refl
inner_stretched false r = inner_attribute (codes "y") (20 * r + 16) refl

inner_spacing : (n : ℕ) → Inner (spacing n)
unfolding spacing
inner_spacing n = joined (attribute (codes "textLength") (12 * n)) (codes " lengthAdjust=\"spacingAndGlyphs\"") (inner_attribute (codes "textLength") (12 * n) refl) refl

-- All tags of a picture.

abbrev pub has_inner : Piece → Bool
has_inner p = list_all is_inner p.tag

abbrev pub Tags : List Piece → Type 0
Tags ps = list_all has_inner ps ≡ true

both : (ps qs : List Piece) → Tags ps → Tags qs → Tags (ps ++ qs)
both ps qs h k = list_all-append has_inner ps qs ∙ rw (h, k) refl

alone : (tag cs : List ℕ) → Inner tag → Tags (piece tag cs ∷ [])
alone tag cs h = rw h refl

ground_tags : (r c : ℕ) (run : List Look) (i : Ink) → Tags (ground r c run i)
unfolding ground
ground_tags r c run i =
    alone (codes "rect" ++ corner (12 * c) (20 * r) ++ svg_extent (length run) ++ fill i.colour ++ codes "/") newline (joined (codes "rect" ++ corner (12 * c) (20 * r) ++ svg_extent (length run) ++ fill i.colour) (codes "/") (joined (codes "rect" ++ corner (12 * c) (20 * r) ++ svg_extent (length run)) (fill i.colour) (joined (codes "rect" ++ corner (12 * c) (20 * r)) (svg_extent (length run)) (joined (codes "rect") (corner (12 * c) (20 * r)) refl (inner_corner (12 * c) (20 * r))) (inner_extent (length run))) (inner_fill i.colour)) refl)

mosaics_tags : (r c : ℕ) (run : List Look) (i : Ink) → Tags (mosaics r c run i)
unfolding mosaics
mosaics_tags r c run i =
    alone (codes "path" ++ fill i.colour ++ codes " d=\"" ++ mosaics_path (12 * c) (20 * r) run ++ codes "\"/") newline (joined (codes "path" ++ fill i.colour ++ codes " d=\"" ++ mosaics_path (12 * c) (20 * r) run) (codes "\"/") (joined (codes "path" ++ fill i.colour ++ codes " d=\"") (mosaics_path (12 * c) (20 * r) run) (joined (codes "path" ++ fill i.colour) (codes " d=\"") (joined (codes "path") (fill i.colour) refl (inner_fill i.colour)) refl) (inner_mosaics (12 * c) (20 * r) run)) refl)

inner_letters : (r c n : ℕ) (i : Ink) → Inner (letters_tag r c n i)
unfolding letters_tag
inner_letters r c n i =
    joined (codes "text" ++ attribute (codes "x") (12 * c) ++ stretched i.tall r ++ spacing n) (fill i.colour) (joined (codes "text" ++ attribute (codes "x") (12 * c) ++ stretched i.tall r) (spacing n) (joined (codes "text" ++ attribute (codes "x") (12 * c)) (stretched i.tall r) (joined (codes "text") (attribute (codes "x") (12 * c)) refl (inner_attribute (codes "x") (12 * c) refl)) (inner_stretched i.tall r)) (inner_spacing n)) (inner_fill i.colour)

letters_tags : (r c : ℕ) (run : List Look) (i : Ink) → Tags (letters r c run i)
unfolding letters
letters_tags r c run i = rw (inner_letters r c (length run) i) refl

drawn_tags : (layer : Layer) (r c : ℕ) (run : List Look) (i : Ink) → Tags (drawn layer r c run i)
drawn_tags Grounds = ground_tags
drawn_tags Mosaics = mosaics_tags
drawn_tags Letters = letters_tags

flash_tags : Tags flash_begin
unfolding flash_begin
flash_tags = refl

group_tags : Tags group_end
unfolding group_end
group_tags = refl

flashing_tags : (flash : Bool) (ps : List Piece) → Tags ps → Tags (flashing flash ps)
flashing_tags true ps h = both (flash_begin ++ ps) group_end (both flash_begin ps flash_tags h) group_tags
flashing_tags false ps h = h

drawn_in_tags : (layer : Layer) (r c : ℕ) (run : List Look) (i : Option Ink) → Tags (drawn_in layer r c run i)
drawn_in_tags layer r c run None = refl
drawn_in_tags layer r c run (Some i) = flashing_tags i.flash (drawn layer r c run i) (drawn_tags layer r c run i)

run_tags : (layer : Layer) (r c : ℕ) (run : List Look) → Tags (run_pieces layer r c run)
run_tags layer r c run = drawn_in_tags layer r c run (first_ink layer run)

row_tags : (layer : Layer) (r c : ℕ) (run rest : List Look) → Tags (row_pieces layer r c run rest)
row_tags layer r c run [] = run_tags layer r c run
row_tags layer r c run (a ∷ rest) =
    cond_both (run_goes_on layer run a) _ _ Tags (λ e. row_tags layer r c (run ++ a ∷ []) rest)
    (λ e. both (run_pieces layer r c run) (row_pieces layer r (c + length run) (a ∷ []) rest) (run_tags layer r c run) (row_tags layer r (c + length run) (a ∷ []) rest))

layer_tags : (layer : Layer) (r : ℕ) (rows : List (List Look)) → Tags (layer_pieces layer r rows)
layer_tags layer r [] = refl
layer_tags layer r (row ∷ rows) = both (row_pieces layer r 0 [] row) (layer_pieces layer (r + 1) rows) (row_tags layer r 0 [] row) (layer_tags layer (r + 1) rows)

svg_begin_tags : Tags svg_begin
unfolding svg_begin
svg_begin_tags = refl

title_tags : (id : Id) → Tags (svg_title id)
unfolding svg_title
title_tags id = refl

blocks_begin_tags : Tags blocks_begin
unfolding blocks_begin
blocks_begin_tags = refl

texts_begin_tags : Tags texts_begin
unfolding texts_begin
texts_begin_tags = refl

foot_tags : Tags svg_foot
unfolding svg_foot
foot_tags = refl

blocks_tags : (rows : List (List Look)) → Tags (blocks rows)
blocks_tags rows =
    both (blocks_begin ++ layer_pieces Grounds 0 rows ++ layer_pieces Mosaics 0 rows) group_end (both (blocks_begin ++ layer_pieces Grounds 0 rows) (layer_pieces Mosaics 0 rows) (both blocks_begin (layer_pieces Grounds 0 rows) blocks_begin_tags (layer_tags Grounds 0 rows)) (layer_tags Mosaics 0 rows)) group_tags

texts_tags : (rows : List (List Look)) → Tags (texts rows)
texts_tags rows =
    both (texts_begin ++ layer_pieces Letters 0 rows) group_end (both texts_begin (layer_pieces Letters 0 rows) texts_begin_tags (layer_tags Letters 0 rows)) group_tags

touched_tags : (cell : Option ℕ) → Tags (touch_mark cell)
unfolding touch_mark
touched_tags None = refl
touched_tags (Some p) =
    alone (codes "rect class=\"touched\"" ++ corner (12 * (p % 40)) (20 * (p / 40)) ++ codes " width=\"12\" height=\"20\" fill=\"none\" stroke=\"#f00\" stroke-width=\"2\"/") newline (joined (codes "rect class=\"touched\"" ++ corner (12 * (p % 40)) (20 * (p / 40))) (codes " width=\"12\" height=\"20\" fill=\"none\" stroke=\"#f00\" stroke-width=\"2\"/") (joined (codes "rect class=\"touched\"") (corner (12 * (p % 40)) (20 * (p / 40))) refl (inner_corner (12 * (p % 40)) (20 * (p / 40)))) refl)

pub svg_tags : (id : Id) (rows : List (List Look)) (cell : Option ℕ) → Tags (svg_pieces id rows cell)
svg_tags id rows cell =
    both (svg_begin ++ svg_title id ++ blocks rows ++ texts rows ++ touch_mark cell) svg_foot (both (svg_begin ++ svg_title id ++ blocks rows ++ texts rows) (touch_mark cell) (both (svg_begin ++ svg_title id ++ blocks rows) (texts rows) (both (svg_begin ++ svg_title id) (blocks rows) (both svg_begin (svg_title id) svg_begin_tags (title_tags id)) (blocks_tags rows)) (texts_tags rows)) (touched_tags cell)) foot_tags

-- Those of a picture alone.

inner_letter : (x y : ℕ) (h : Height) (drawn : Option ℕ) → Inner (letter_path x y h drawn)
inner_letter x y h None = refl
inner_letter x y h (Some c) =
    joined (codes "M" ++ decimal x ++ codes " " ++ decimal y) (outline h c) (joined (codes "M" ++ decimal x ++ codes " ") (decimal y) (put_number (codes "M") x (codes " ") refl refl) (inner_decimal y)) (inner_outline h c)

inner_row : (i : Ink) (x y : ℕ) (row : List Look) → Inner (letters_path i x y row)
inner_row i x y [] = refl
inner_row i x y (a ∷ rest) =
    joined (letter_path x y a.height (char_in i (shown a))) (letters_path i (x + 12) y rest) (inner_letter x y a.height (char_in i (shown a))) (inner_row i (x + 12) y rest)

inner_screen : (i : Ink) (r : ℕ) (rows : List (List Look)) → Inner (screen_path i r rows)
inner_screen i r [] = refl
inner_screen i r (row ∷ rows) = joined (letters_path i 0 (20 * r) row) (screen_path i (r + 1) rows) (inner_row i 0 (20 * r) row) (inner_screen i (r + 1) rows)

outlines_tags : (i : Ink) (rows : List (List Look)) → Tags (outlines i rows)
unfolding outlines
outlines_tags i rows =
    alone (codes "path" ++ fill i.colour ++ codes " d=\"" ++ screen_path i 0 rows ++ codes "\"/") newline (joined (codes "path" ++ fill i.colour ++ codes " d=\"" ++ screen_path i 0 rows) (codes "\"/") (joined (codes "path" ++ fill i.colour ++ codes " d=\"") (screen_path i 0 rows) (joined (codes "path" ++ fill i.colour) (codes " d=\"") (joined (codes "path") (fill i.colour) refl (inner_fill i.colour)) refl) (inner_screen i 0 rows)) refl)

outlines_in_tags : (i : Ink) (rows : List (List Look)) → Tags (outlines_in i rows)
unfolding outlines_in
outlines_in_tags i rows = cond_both (has_ink i rows) _ _ Tags (λ e. flashing_tags i.flash (outlines i rows) (outlines_tags i rows)) (λ e. refl)

first_colours_tags : (flash tall : Bool) (rows : List (List Look)) → Tags (first_colours flash tall rows)
unfolding first_colours
first_colours_tags flash tall rows =
    let of = λ (k : Colour). outlines_in (ink k flash tall) rows in
    let tags = λ (k : Colour). outlines_in_tags (ink k flash tall) rows in
    both (of Black ++ of Red ++ of Green) (of Yellow) (both (of Black ++ of Red) (of Green) (both (of Black) (of Red) (tags Black) (tags Red)) (tags Green)) (tags Yellow)

last_colours_tags : (flash tall : Bool) (rows : List (List Look)) → Tags (last_colours flash tall rows)
unfolding last_colours
last_colours_tags flash tall rows =
    let of = λ (k : Colour). outlines_in (ink k flash tall) rows in
    let tags = λ (k : Colour). outlines_in_tags (ink k flash tall) rows in
    both (of Blue ++ of Magenta ++ of Cyan) (of White) (both (of Blue ++ of Magenta) (of Cyan) (both (of Blue) (of Magenta) (tags Blue) (tags Magenta)) (tags Cyan)) (tags White)

colours_tags : (flash tall : Bool) (rows : List (List Look)) → Tags (all_colours flash tall rows)
unfolding all_colours
colours_tags flash tall rows = both (first_colours flash tall rows) (last_colours flash tall rows) (first_colours_tags flash tall rows) (last_colours_tags flash tall rows)

all_outlines_tags : (rows : List (List Look)) → Tags (all_outlines rows)
unfolding all_outlines
all_outlines_tags rows =
    both (all_colours false false rows ++ all_colours false true rows ++ all_colours true false rows) (all_colours true true rows)
    (both (all_colours false false rows ++ all_colours false true rows) (all_colours true false rows)
    (both (all_colours false false rows) (all_colours false true rows) (colours_tags false false rows) (colours_tags false true rows)) (colours_tags true false rows)) (colours_tags true true rows)

text_tags : (rows : List (List Look)) → Tags (svg_text rows)
unfolding svg_text
text_tags rows = refl

picture_tags : (id : Id) (rows : List (List Look)) → Tags (picture_pieces id rows)
picture_tags id rows =
    both (svg_begin ++ svg_title id ++ svg_text rows ++ blocks rows ++ all_outlines rows) svg_foot (both (svg_begin ++ svg_title id ++ svg_text rows ++ blocks rows) (all_outlines rows) (both (svg_begin ++ svg_title id ++ svg_text rows) (blocks rows) (both (svg_begin ++ svg_title id) (svg_text rows) (both svg_begin (svg_title id) svg_begin_tags (title_tags id)) (text_tags rows)) (blocks_tags rows)) (all_outlines_tags rows)) foot_tags

-- The reader.

in_tag : (tag since front rest : List ℕ) → Inner front → tags_reading true tag since (front ++ 0x3E ∷ rest) ≡ tags_reading false (tag ++ front) [] rest
in_tag tag since [] rest h = ap (λ (t : List ℕ). tags_reading false t [] rest) (sym (append-nil tag))
in_tag tag since (b ∷ bs) rest h =
    let here : (b == 0x3E) ≡ false = (or_parts (b == 0x3C) (b == 0x3E) (first_of (b == 0x3C || b == 0x3E) (list_all is_inner bs) h)).1 in
    let later : Inner bs = rest_of (b == 0x3C || b == 0x3E) (list_all is_inner bs) h in
    rw here (in_tag (tag ++ b ∷ []) since bs rest later ∙ ap (λ (t : List ℕ). tags_reading false t [] rest) (append_assoc tag (b ∷ []) bs))

abbrev pub Outer : List ℕ → Type 0
Outer bs = list_all is_harmless bs ≡ true

not_open : (b : ℕ) (bs : List ℕ) → Outer (b ∷ bs) → (b == 0x3C) ≡ false
not_open b bs h = (or_parts (b == 0x3C) (b == 0x3E || (b == 0x22 || b == 0x27)) (first_of (b == 0x3C || (b == 0x3E || (b == 0x22 || b == 0x27))) (list_all is_harmless bs) h)).0

outer_rest : (b : ℕ) (bs : List ℕ) → Outer (b ∷ bs) → Outer bs
outer_rest b bs h = rest_of (b == 0x3C || (b == 0x3E || (b == 0x22 || b == 0x27))) (list_all is_harmless bs) h

out_tag : (tag since front rest : List ℕ) → Outer front → tags_reading false tag since (front ++ 0x3C ∷ rest) ≡ piece tag (since ++ front) ∷ tags_reading true [] [] rest
out_tag tag since [] rest h = ap (λ (cs : List ℕ). piece tag cs ∷ tags_reading true [] [] rest) (sym (append-nil since))
out_tag tag since (b ∷ bs) rest h =
    rw (not_open b bs h) (out_tag tag (since ++ b ∷ []) bs rest (outer_rest b bs h) ∙ ap (λ (cs : List ℕ). piece tag cs ∷ tags_reading true [] [] rest) (append_assoc since (b ∷ []) bs))

out_end : (tag since front : List ℕ) → Outer front → tags_reading false tag since front ≡ piece tag (since ++ front) ∷ []
out_end tag since [] h = ap (λ (cs : List ℕ). piece tag cs ∷ []) (sym (append-nil since))
out_end tag since (b ∷ bs) h =
    rw (not_open b bs h) (out_end tag (since ++ b ∷ []) bs (outer_rest b bs h) ∙ ap (λ (cs : List ℕ). piece tag cs ∷ []) (append_assoc since (b ∷ []) bs))

-- a tag, its characters, and what comes after
regroup : (tag cs rest : List ℕ) → tag ++ codes ">" ++ cs ++ rest ≡ tag ++ (0x3E ∷ (cs ++ rest))
regroup tag cs rest = append_assoc (tag ++ codes ">") cs rest ∙ append_assoc tag (codes ">") (cs ++ rest)

begins : (p : Piece) (rest : List ℕ) → Inner p.tag → tags_of (piece_bytes p ++ rest) ≡ tags_reading false p.tag [] (written Markup p.chars ++ rest)
begins p rest h =
    ap (tags_reading true [] []) (regroup p.tag (written Markup p.chars) rest) ∙ in_tag [] [] p.tag (written Markup p.chars ++ rest) h

reads : (p : Piece) (ps : List Piece) → Tags (p ∷ ps) → tags_of (markup (p ∷ ps)) ≡ raw p ∷ map raw ps
unfolding markup
reads p [] h =
    begins p [] (and_parts (has_inner p) true h).0
    ∙ (ap (tags_reading false p.tag []) (append-nil (written Markup p.chars)) ∙ out_end p.tag [] (written Markup p.chars) (harmless p.chars))
reads p (q ∷ qs) h =
    begins p (markup (q ∷ qs)) (and_parts (has_inner p) (list_all has_inner (q ∷ qs)) h).0
    ∙ (out_tag p.tag [] (written Markup p.chars) _ (harmless p.chars)
    ∙ ap (λ (later : List Piece). raw p ∷ later) (reads q qs (and_parts (has_inner p) (list_all has_inner (q ∷ qs)) h).1))

reads_all : (ps : List Piece) → Tags ps → tags_of (markup ps) ≡ map raw ps
unfolding markup
reads_all [] h = refl
reads_all (p ∷ ps) h = reads p ps h

pub svg_reads_back : (id : Id) (rows : List (List Look)) (cell : Option ℕ) → tags_of (svg id rows cell) ≡ map raw (svg_pieces id rows cell)
svg_reads_back id rows cell = reads_all (svg_pieces id rows cell) (svg_tags id rows cell)

pub picture_reads_back : (id : Id) (rows : List (List Look)) → tags_of (picture id rows) ≡ map raw (picture_pieces id rows)
picture_reads_back id rows = reads_all (picture_pieces id rows) (picture_tags id rows)
