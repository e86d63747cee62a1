-- A text in which spans are replaced.
use Rattle.std.specs.Prelude.{◌≡◌, ◌++◌, ◌+◌, ◌-◌, ◌&&◌, ℕ, Bool, List, [], ◌∷◌, Option, Some, None, option_map, nat_le, length, take, drop, map, if◌then◌else◌}

-- the bytes from begin up to end, and what takes their place
pub record ReplacementView : Type 0 where
  pub begin : ℕ
  pub end : ℕ
  pub text : List ℕ

-- a span that begins at a place or after it, and ends in a text of this length
abbrev pub is_after : ℕ → ℕ → ReplacementView → Bool
is_after at len r = nat_le at r.begin && (nat_le r.begin r.end && nat_le r.end len)

-- the bytes of a text from one place up to another
abbrev pub between : List ℕ → ℕ → ℕ → List ℕ
between text begin end = take (end - begin) (drop begin text)

-- the text from a place on: up to the first span, then its new text, and so on
abbrev pub edited_from : List ℕ → ℕ → List ReplacementView → Option (List ℕ)
edited_from text at [] = Some (drop at text)
edited_from text at (r ∷ rs) =
    if is_after at (length text) r
    then option_map (λ rest. between text at r.begin ++ (r.text ++ rest)) (edited_from text r.end rs)
    else None

-- the whole text; none if the spans aren't in order
abbrev pub edited : List ℕ → List ReplacementView → Option (List ℕ)
edited text rs = edited_from text 0 rs

-- What is kept.

-- pieces with texts between them
abbrev pub joined : List (List ℕ) → List (List ℕ) → List ℕ
joined [] texts = []
joined (piece ∷ pieces) [] = piece
joined (piece ∷ pieces) (text ∷ texts) = piece ++ (text ++ joined pieces texts)

-- the old texts of the spans, and the new ones
abbrev pub old_texts : List ℕ → List ReplacementView → List (List ℕ)
old_texts text rs = map (λ r. between text r.begin r.end) rs

abbrev pub new_texts : List ReplacementView → List (List ℕ)
new_texts rs = map (λ r. r.text) rs

-- both texts are the same pieces, one more than there are spans, with the texts of the spans between them
pub record KeepsRest (text new : List ℕ) (rs : List ReplacementView) : Type 0 where
  pub pieces : List (List ℕ)
  pub count : length pieces ≡ length rs + 1
  pub old_is : text ≡ joined pieces (old_texts text rs)
  pub new_is : new ≡ joined pieces (new_texts rs)

abbrev pub RestIsKept : Type 0
RestIsKept = (text new : List ℕ) (rs : List ReplacementView) → edited text rs ≡ Some new → KeepsRest text new rs
