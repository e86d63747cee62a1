-- Nothing is kept of a picture: its elements have other names.
use Rattle.std.proofs.Common.{◌≡◌, ℕ, ◌+◌, refl, ◌∙◌, Bool, true, false, not, ◌||◌, List, [], ◌∷◌, ◌++◌, Option, Some, None, codes, length}
use Rattle.std.specs.List.{list_all, list_any}
use Rattle.std.proofs.lemmas.Bool.{and_parts, cond_both}
use Rattle.std.proofs.lemmas.List.Folds.{list_all-append}
use Rattle.page_ids.specs.Ids.{Id}
use Rattle.screens.specs.declared.look.Look.{Look}
use Rattle.screens.specs.declared.layer.Ink.{Ink}
use Rattle.screens.specs.declared.layer.Layer.{Layer}
use Rattle.screens.specs.declared.layer.Layer.TheVariants.{Grounds, Mosaics, Letters}
use Rattle.screens.specs.Svg.{Piece, attribute, corner, fill, flash_begin, group_end, flashing, ground, mosaics, letters_tag, letters, drawn, drawn_in, first_ink, run_pieces, run_goes_on, row_pieces, layer_pieces, svg_begin, svg_title, blocks_begin, blocks, texts_begin, texts, touch_mark, svg_foot, svg_pieces}
use Rattle.screens.specs.Laws.{is_name}
use Rattle.screens.proofs.Tags.{has_inner, Tags, svg_tags}
use Rattle.base_pages.specs.Reading.{name_of, kept_names}
use Rattle.base_pages.proofs.Parts.{Part, none}

abbrev is_other : Piece → Bool
is_other p = not (list_any (is_name (name_of p.tag)) (codes "/section" ∷ kept_names))

abbrev Others : List Piece → Type 0
Others ps = list_all is_other ps ≡ true

joined : (ps qs : List Piece) → Others ps → Others qs → Others (ps ++ qs)
joined ps qs h k = list_all-append is_other ps qs ∙ rw (h, k) refl

drawn_others : (layer : Layer) (r c : ℕ) (run : List Look) (i : Ink) → Others (drawn layer r c run i)
unfolding ground mosaics letters letters_tag corner fill attribute
drawn_others Grounds r c run i = refl
drawn_others Mosaics r c run i = refl
drawn_others Letters r c run i = refl

flashing_others : (flash : Bool) (ps : List Piece) → Others ps → Others (flashing flash ps)
unfolding flash_begin group_end
flashing_others true ps h = joined (flash_begin ++ ps) group_end (joined flash_begin ps refl h) refl
flashing_others false ps h = h

drawn_in_others : (layer : Layer) (r c : ℕ) (run : List Look) (i : Option Ink) → Others (drawn_in layer r c run i)
drawn_in_others layer r c run None = refl
drawn_in_others layer r c run (Some i) = flashing_others i.flash (drawn layer r c run i) (drawn_others layer r c run i)

row_others : (layer : Layer) (r c : ℕ) (run rest : List Look) → Others (row_pieces layer r c run rest)
row_others layer r c run [] = drawn_in_others layer r c run (first_ink layer run)
row_others layer r c run (a ∷ rest) =
    cond_both (run_goes_on layer run a) _ _ Others (λ e. row_others layer r c (run ++ a ∷ []) rest)
    (λ e. joined (run_pieces layer r c run) (row_pieces layer r (c + length run) (a ∷ []) rest) (drawn_in_others layer r c run (first_ink layer run)) (row_others layer r (c + length run) (a ∷ []) rest))

layer_others : (layer : Layer) (r : ℕ) (rows : List (List Look)) → Others (layer_pieces layer r rows)
layer_others layer r [] = refl
layer_others layer r (row ∷ rows) = joined (row_pieces layer r 0 [] row) (layer_pieces layer (r + 1) rows) (row_others layer r 0 [] row) (layer_others layer (r + 1) rows)

touch_others : (cell : Option ℕ) → Others (touch_mark cell)
unfolding touch_mark
touch_others None = refl
touch_others (Some p) = refl

picture_others : (id : Id) (rows : List (List Look)) (cell : Option ℕ) → Others (svg_pieces id rows cell)
unfolding svg_begin svg_title blocks_begin texts_begin group_end svg_foot
picture_others id rows cell =
    let grounds = layer_pieces Grounds 0 rows in
    let letters = layer_pieces Letters 0 rows in
    let drawn = joined (blocks_begin ++ grounds) (layer_pieces Mosaics 0 rows) (joined blocks_begin grounds refl (layer_others Grounds 0 rows)) (layer_others Mosaics 0 rows) in
    let block = joined (blocks_begin ++ grounds ++ layer_pieces Mosaics 0 rows) group_end drawn refl in
    let text = joined (texts_begin ++ letters) group_end (joined texts_begin letters refl (layer_others Letters 0 rows)) refl in
    joined (svg_begin ++ svg_title id ++ blocks rows ++ texts rows ++ touch_mark cell) svg_foot
    (joined (svg_begin ++ svg_title id ++ blocks rows ++ texts rows) (touch_mark cell)
    (joined (svg_begin ++ svg_title id ++ blocks rows) (texts rows)
    (joined (svg_begin ++ svg_title id) (blocks rows) refl block) text)
    (touch_others cell)) refl

other_parts : (a b c : Bool) → not (a || (b || c)) ≡ true → (not (b || a) ≡ true) × ((b || c) ≡ false)
other_parts true b c h = cc
other_parts false true c h = cc
other_parts false false true h = cc
other_parts false false false h = (refl, refl)

silent : (ps : List Piece) → Tags ps → Others ps → Part ps []
silent [] h k = none
silent (p ∷ ps) h k =
    let inner = and_parts (has_inner p) (list_all has_inner ps) h in
    let other = and_parts (is_other p) (list_all is_other ps) k in
    let name = name_of p.tag in
    let parts = other_parts (is_name name (codes "/section")) (is_name name (codes "section")) _ other.0 in
    let later = silent ps inner.1 other.1 in
    record { fit = rw (inner.0, parts.0, later.fit) refl; keeps = rw (parts.1, later.keeps) refl }

pub silent_picture : (id : Id) (rows : List (List Look)) (cell : Option ℕ) → Part (svg_pieces id rows cell) []
silent_picture id rows cell = silent (svg_pieces id rows cell) (svg_tags id rows cell) (picture_others id rows cell)
