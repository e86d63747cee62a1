-- Elements of markup, as tags with the characters after them.
use Rattle.std.specs.Prelude.{ℕ, List, [], ◌∷◌, ◌++◌, codes}
use Rattle.std.specs.List.{flat_map}
use Rattle.screens.specs.declared.writing.Writing.TheVariants.{Markup}
use Rattle.screens.specs.Writing.{written}
use Rattle.screens.specs.Svg.{Piece, piece, newline}

-- ` name="value"`, the value's characters with references
unfoldable pub attribute_bytes : List ℕ × List ℕ → List ℕ
attribute_bytes a = codes " " ++ a.0 ++ codes "=\"" ++ written Markup a.1 ++ codes "\""

-- a name and attributes
unfoldable pub tag : List ℕ → List (List ℕ × List ℕ) → List ℕ
tag name attributes = name ++ flat_map attribute_bytes attributes

unfoldable pub opening_pieces : List ℕ → List (List ℕ × List ℕ) → List Piece
opening_pieces name attributes = piece (tag name attributes) newline ∷ []

unfoldable pub ending : List ℕ → List Piece
ending name = piece (codes "/" ++ name) newline ∷ []

-- an element of characters
abbrev pub element_pieces : List ℕ → List (List ℕ × List ℕ) → List ℕ → List Piece
element_pieces name attributes chars = piece (tag name attributes) chars ∷ ending name

-- an element of others, its tags on lines of their own
abbrev pub around : List ℕ → List (List ℕ × List ℕ) → List Piece → List Piece
around name attributes inside = opening_pieces name attributes ++ inside ++ ending name
