-- Markup, piece by piece, as bytes.
use Rattle.std.proofs.Common.{None, ◌≡◌, ◌++◌, ◌∷◌, [], ◌*◌, ◌/◌, ◌%◌, arith, refl, ap, sym, ◌∙◌, ℕ, List, Some, codes, map, length, append_assoc, append-nil}
use Rattle.std.proofs.lemmas.Grind.{flat_map-append}
use Rattle.std.proofs.lemmas.Str.{encode_ascii}
use Rattle.page_ids.specs.Ids.{Id, frame_text}
use Rattle.screens.specs.declared.look.Look.{Look}
use Rattle.screens.specs.declared.layer.Ink.{Ink}
use Rattle.screens.specs.declared.writing.Writing.TheVariants.{Markup}
use Rattle.screens.specs.Writing.{written}
use Rattle.screens.specs.Text.{seen_char, text}
use Rattle.screens.specs.Mosaics.{mosaics_path}
use Rattle.screens.specs.Svg.{Piece, piece, piece_bytes, markup, newline, corner, svg_extent, fill, flash_begin, group_end, ground, mosaics, letters_tag, letters, svg_begin, svg_title, blocks_begin, texts_begin, touch_mark, svg_foot, screen_path, outlines, svg_text}

pub markup_append : (ps qs : List Piece) → markup (ps ++ qs) ≡ markup ps ++ markup qs
unfolding markup
markup_append ps qs = flat_map-append piece_bytes ps qs

pub nothing : (bs : List ℕ) → bs ≡ bs ++ markup []
unfolding markup
nothing bs = sym (append-nil bs)

newline_bytes : written Markup newline ≡ 10 ∷ []
newline_bytes = ap (λ (bs : List ℕ). bs ++ []) (encode_ascii 10 (omega arith))

-- a tag and a newline
line_bytes : (tag : List ℕ) → markup (piece tag newline ∷ []) ≡ codes "<" ++ tag ++ codes ">\n"
unfolding markup
line_bytes tag =
    append-nil (piece_bytes (piece tag newline))
    ∙ (ap (λ (bs : List ℕ). codes "<" ++ tag ++ codes ">" ++ bs) newline_bytes ∙ append_assoc (codes "<" ++ tag) (codes ">") (codes "\n"))

-- a tag and characters
chars_bytes : (tag cs : List ℕ) → markup (piece tag cs ∷ []) ≡ codes "<" ++ tag ++ codes ">" ++ written Markup cs
unfolding markup
chars_bytes tag cs = append-nil (piece_bytes (piece tag cs))

pub svg_begin_bytes : codes "<svg xmlns=\"http://www.w3.org/2000/svg\" viewBox=\"0 0 480 480\" width=\"600\" height=\"480\" preserveAspectRatio=\"none\">" ≡ markup svg_begin
unfolding markup svg_begin
svg_begin_bytes = refl

pub flash_begin_bytes : codes "<g class=\"flash\"><animate attributeName=\"visibility\" values=\"visible;hidden\" calcMode=\"discrete\" dur=\"1s\" repeatCount=\"indefinite\"/>" ≡ markup flash_begin
unfolding markup flash_begin
flash_begin_bytes = refl

pub group_end_bytes : markup group_end ≡ codes "</g>\n"
unfolding group_end
group_end_bytes = line_bytes (codes "/g")

pub blocks_begin_bytes : codes "<g shape-rendering=\"crispEdges\">\n<rect width=\"480\" height=\"480\" fill=\"#000\"/>\n" ≡ markup blocks_begin
unfolding blocks_begin
blocks_begin_bytes =
    let group = codes "g shape-rendering=\"crispEdges\"" in
    let rect = codes "rect width=\"480\" height=\"480\" fill=\"#000\"/" in
    sym (markup_append (piece group newline ∷ []) (piece rect newline ∷ [])
    ∙ ap (λ (bs : List ℕ). bs ++ markup (piece rect newline ∷ [])) (line_bytes group)
    ∙ ap (λ (bs : List ℕ). (codes "<" ++ group ++ codes ">\n") ++ bs) (line_bytes rect))

pub texts_begin_bytes : codes "<g font-family=\"DejaVu Sans Mono, Liberation Mono, Consolas, Menlo, monospace\" font-size=\"20\">\n" ≡ markup texts_begin
unfolding texts_begin
texts_begin_bytes = sym (line_bytes (codes "g font-family=\"DejaVu Sans Mono, Liberation Mono, Consolas, Menlo, monospace\" font-size=\"20\""))

pub foot_bytes : markup svg_foot ≡ codes "</svg>\n"
unfolding svg_foot
foot_bytes = line_bytes (codes "/svg")

-- a tag that ends in a slash
closed_bytes : (front last : List ℕ) → markup (piece (front ++ last) newline ∷ []) ≡ codes "<" ++ front ++ (last ++ codes ">\n")
closed_bytes front last = line_bytes (front ++ last) ∙ ap (λ (bs : List ℕ). codes "<" ++ bs) (append_assoc front last (codes ">\n"))

pub ground_bytes : (r c : ℕ) (run : List Look) (i : Ink) → markup (ground r c run i) ≡ codes "<rect" ++ corner (12 * c) (20 * r) ++ svg_extent (length run) ++ fill i.colour ++ codes "/>\n"
unfolding ground
ground_bytes r c run i = closed_bytes (codes "rect" ++ corner (12 * c) (20 * r) ++ svg_extent (length run) ++ fill i.colour) (codes "/")

pub mosaics_bytes : (r c : ℕ) (run : List Look) (i : Ink) → markup (mosaics r c run i) ≡ codes "<path" ++ fill i.colour ++ codes " d=\"" ++ mosaics_path (12 * c) (20 * r) run ++ codes "\"/>\n"
unfolding mosaics
mosaics_bytes r c run i = closed_bytes (codes "path" ++ fill i.colour ++ codes " d=\"" ++ mosaics_path (12 * c) (20 * r) run) (codes "\"/")

-- an element with characters
element_bytes : (tag cs last : List ℕ) → markup (piece tag cs ∷ piece last newline ∷ []) ≡ codes "<" ++ tag ++ codes ">" ++ written Markup cs ++ (codes "<" ++ last ++ codes ">\n")
element_bytes tag cs last =
    markup_append (piece tag cs ∷ []) (piece last newline ∷ [])
    ∙ (ap (λ (bs : List ℕ). bs ++ markup (piece last newline ∷ [])) (chars_bytes tag cs)
    ∙ ap (λ (bs : List ℕ). (codes "<" ++ tag ++ codes ">" ++ written Markup cs) ++ bs) (line_bytes last))

pub letters_bytes : (r c : ℕ) (run : List Look) (i : Ink) → markup (letters r c run i) ≡ codes "<" ++ letters_tag r c (length run) i ++ codes ">" ++ written Markup (map seen_char run) ++ codes "</text>\n"
unfolding letters
letters_bytes r c run i = element_bytes (letters_tag r c (length run) i) (map seen_char run) (codes "/text")

pub title_bytes : (id : Id) → markup (svg_title id) ≡ codes "<title>" ++ written Markup (frame_text id) ++ codes "</title>\n"
unfolding svg_title
title_bytes id = element_bytes (codes "title") (frame_text id) (codes "/title")

pub no_touch : (bs : List ℕ) → bs ≡ bs ++ markup (touch_mark None)
unfolding markup touch_mark
no_touch bs = sym (append-nil bs)

pub touched_bytes : (p : ℕ) → markup (touch_mark (Some p)) ≡ codes "<rect class=\"touched\"" ++ corner (12 * (p % 40)) (20 * (p / 40)) ++ codes " width=\"12\" height=\"20\" fill=\"none\" stroke=\"#f00\" stroke-width=\"2\"/>\n"
unfolding touch_mark
touched_bytes p = closed_bytes (codes "rect class=\"touched\"" ++ corner (12 * (p % 40)) (20 * (p / 40))) (codes " width=\"12\" height=\"20\" fill=\"none\" stroke=\"#f00\" stroke-width=\"2\"/")

pub outlines_bytes : (i : Ink) (rows : List (List Look)) → markup (outlines i rows) ≡ codes "<path" ++ fill i.colour ++ codes " d=\"" ++ screen_path i 0 rows ++ codes "\"/>\n"
unfolding outlines
outlines_bytes i rows = closed_bytes (codes "path" ++ fill i.colour ++ codes " d=\"" ++ screen_path i 0 rows) (codes "\"/")

pub text_bytes : (rows : List (List Look)) → markup (svg_text rows) ≡ codes "<desc>" ++ written Markup (text rows) ++ codes "</desc>\n"
unfolding svg_text
text_bytes rows = element_bytes (codes "desc") (text rows) (codes "/desc")
