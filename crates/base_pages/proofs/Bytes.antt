-- Elements as bytes.
use Rattle.std.proofs.Common.{◌≡◌, ℕ, arith, refl, sym, ap, ◌∙◌, List, [], ◌∷◌, ◌++◌, codes, append_assoc, append-nil}
use Rattle.std.specs.List.{flat_map}
use Rattle.std.proofs.lemmas.Grind.{flat_map-append}
use Rattle.std.proofs.lemmas.Str.{encode_ascii}
use Rattle.screens.specs.declared.writing.Writing.TheVariants.{Markup}
use Rattle.screens.specs.Writing.{written}
use Rattle.screens.specs.Svg.{Piece, piece, newline, piece_bytes, markup}
use Rattle.screens.proofs.Lines.{written_append}
use Rattle.base_pages.specs.Elements.{tag, opening_pieces, ending, element_pieces, around}

pub markup_append : (ps qs : List Piece) → markup (ps ++ qs) ≡ markup ps ++ markup qs
unfolding markup
markup_append ps qs = flat_map-append piece_bytes ps qs

pub written_both : (cs ds : List ℕ) → written Markup (cs ++ ds) ≡ written Markup cs ++ written Markup ds
written_both cs ds = written_append Markup cs ds

-- no characters are written for none
pub no_chars : (bs : List ℕ) → bs ≡ bs ++ written Markup []
no_chars bs = sym (append-nil bs)

pub markup_each : {A : Type 0} (f : A → List Piece) (xs : List A) → markup (flat_map f xs) ≡ flat_map (λ x. markup (f x)) xs
unfolding markup
markup_each f [] = refl
markup_each f (x ∷ xs) = markup_append (f x) (flat_map f xs) ∙ ap (λ (bs : List ℕ). markup (f x) ++ bs) (markup_each f xs)

pub nothing : (bs : List ℕ) → bs ≡ bs ++ markup []
unfolding markup
nothing bs = sym (append-nil bs)

line_bytes : (t : List ℕ) → markup (piece t newline ∷ []) ≡ codes "<" ++ t ++ codes ">" ++ codes "\n"
unfolding markup
line_bytes t =
    append-nil (piece_bytes (piece t newline))
    ∙ ap (λ (bs : List ℕ). codes "<" ++ t ++ codes ">" ++ (bs ++ [])) (encode_ascii 10 (omega arith))

pub opening_bytes : (name : List ℕ) (attributes : List (List ℕ × List ℕ)) → markup (opening_pieces name attributes) ≡ (codes "<" ++ tag name attributes ++ codes ">") ++ codes "\n"
unfolding opening_pieces
opening_bytes name attributes = line_bytes (tag name attributes)

pub ending_bytes : (name : List ℕ) → markup (ending name) ≡ codes "</" ++ name ++ codes ">\n"
unfolding ending
ending_bytes name = line_bytes (codes "/" ++ name) ∙ append_assoc (codes "<" ++ (codes "/" ++ name)) (codes ">") (codes "\n")

pub element_bytes : (name : List ℕ) (attributes : List (List ℕ × List ℕ)) (chars : List ℕ)
    → markup (element_pieces name attributes chars) ≡ (codes "<" ++ tag name attributes ++ codes ">") ++ written Markup chars ++ markup (ending name)
unfolding markup
element_bytes name attributes chars = refl

pub around_bytes : (name : List ℕ) (attributes : List (List ℕ × List ℕ)) (inside : List Piece) → markup (around name attributes inside) ≡ markup (opening_pieces name attributes) ++ markup inside ++ markup (ending name)
around_bytes name attributes inside = simp markup_append
