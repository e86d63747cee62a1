-- A text, read as markup by a reader that knows nothing of bases: its elements, and what is in its sections.
use Rattle.std.specs.Prelude.{ℕ, Bool, List, [], ◌∷◌, codes, drop, filter, map, ◌==◌, if◌then◌else◌}
use Rattle.std.specs.List.{list_any, slice_split}
use Rattle.screens.specs.Svg.{Piece}
use Rattle.screens.specs.Laws.{decoded, is_name, tags_of}

-- the bytes before the first c, and those from it on
abbrev pub until_byte : ℕ → List ℕ → List ℕ
until_byte c [] = []
until_byte c (b ∷ bs) = if b == c then [] else b ∷ until_byte c bs

abbrev pub from : ℕ → List ℕ → List ℕ
from c [] = []
from c (b ∷ bs) = if b == c then b ∷ bs else from c bs

-- the name of a tag is before its first space
abbrev pub name_of : List ℕ → List ℕ
name_of tag = until_byte 0x20 tag

-- after it come ` name=` and a value, in turn; values are between quotation marks, with references
abbrev pub pairs_of : List (List ℕ) → List (List ℕ × List ℕ)
pairs_of [] = []
pairs_of (name ∷ []) = []
pairs_of (name ∷ value ∷ parts) = (until_byte 0x3D (drop 1 name), decoded value) ∷ pairs_of parts

abbrev pub attributes_of : List ℕ → List (List ℕ × List ℕ)
attributes_of tag = pairs_of (slice_split (λ b. b == 0x22) (from 0x20 tag))

-- an element, with what its attributes and its characters up to the next tag mean
pub record Element : Type 0 where
  pub name : List ℕ
  pub attributes : List (List ℕ × List ℕ)
  pub chars : List ℕ

abbrev pub read : Piece → Element
read p = record { name = name_of p.tag; attributes = attributes_of p.tag; chars = decoded p.chars }

abbrev pub elements_of : List ℕ → List Element
elements_of bs = map read (tags_of bs)

-- a section begins with a tag `section`, and ends before `/section`
abbrev pub begins : Element → Bool
begins e = is_name e.name (codes "section")

abbrev pub ends : Element → Bool
ends e = is_name e.name (codes "/section")

abbrev pub inside : List Element → List Element
inside [] = []
inside (e ∷ es) = if ends e then [] else e ∷ inside es

abbrev pub sections_of : List Element → List (List Element)
sections_of [] = []
sections_of (e ∷ es) = if begins e then (e ∷ inside es) ∷ sections_of es else sections_of es

-- what a section says of its frame is in elements of these names; a picture has others
abbrev pub kept_names : List (List ℕ)
kept_names = codes "section" ∷ codes "h2" ∷ codes "pre" ∷ codes "div" ∷ codes "p" ∷ codes "a" ∷ codes "span" ∷ codes "ul" ∷ codes "li" ∷ []

abbrev pub is_kept : Element → Bool
is_kept e = list_any (is_name e.name) kept_names

-- the sections of a text, each with these elements
abbrev pub sections_in : List ℕ → List (List Element)
sections_in bs = map (filter is_kept) (sections_of (elements_of bs))
