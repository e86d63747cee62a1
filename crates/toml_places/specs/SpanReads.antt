-- What is in a span of a text, by toml's own grammar.
use Rattle.std.specs.Prelude.{◌≡◌, ℕ, suc, ◌<◌, ◌≤◌, true, List, ◌++◌, length, drop, slice_get, Option, Some}
use Rattle.std.specs.List.{count_by}
use Rattle.toml_parser.specs.Lexical.{Read}
use Rattle.toml_parser.specs.Strings.{Key, key, simple_key, quoted, starts_string, recursion_limit}
use Rattle.toml.specs.Data.{Data, Items, array, get_item}
use Rattle.toml.specs.Parse.{val, key_equals}
use Rattle.toml_places.specs.declared.spans.Span.{Span}
use Rattle.toml_places.specs.declared.spans.KeyPlace.{KeyPlace}
use Rattle.toml_places.specs.Strings.{TextPart, starts_char, string_char}
use Rattle.toml_places.specs.Values.{element}
use Rattle.toml_places.specs.Spans.{from_offset, key_start, key_piece, value_piece, pair_piece, frame_piece, at_offset, key_span, value_span, element_span, char_span}
use Rattle.toml_places.specs.Places.{parts}
use Rattle.toml_places.specs.Reads.{Writes, IsChar}

-- the span lies in the text, and is this piece of it
pub record IsPieceAt (text : List ℕ) (s : Span) (p : TextPart) : Type 0 where
  pub ascends : s.begin ≤ s.end
  pub within : s.end ≤ length text
  pub begins : p.0 ≡ drop s.begin text
  pub ends : p.1 ≡ drop s.end text

-- the spans of these pieces are those pieces
abbrev pub Stand : (List ℕ → Option TextPart) → Type 0
Stand piece =
    (text : List ℕ) (at : ℕ) (s : Span) → at_offset piece at text ≡ Some s → (p : TextPart) × (piece (drop at text) ≡ Some p) × IsPieceAt text s p

-- Every span lies in the text, and has what the definition of its piece says.
pub record SpansStand : Type 0 where
  pub keys : (k : ℕ) → Stand (key_piece k)
  pub values : (k : ℕ) → Stand (value_piece k)
  pub pairs : (k : ℕ) → Stand (pair_piece k)
  pub frames : Stand frame_piece
  pub elements : (k : ℕ) → Stand (element k)
  pub chars : (k : ℕ) → Stand (string_char k)

-- a character of the text begins at the offset, or it is the end
abbrev pub IsCharPlace : ℕ → List ℕ → Type 0
IsCharPlace at text = from_offset at text ≡ Some (drop at text)

abbrev pub spot : ℕ → ℕ → KeyPlace
spot at part = record { at = at; part = part }

-- the span lies in the text, and toml's grammar reads this there, up to its end
abbrev pub ReadsIn : {A : Type 0} → (List ℕ → Read A) → List ℕ → Span → A → Type 0
ReadsIn read text s a = (s.begin ≤ s.end) × (s.end ≤ length text) × (read (drop s.begin text) ≡ Some (a, drop s.end text))

-- Where toml's grammar reads a key, a value after its key, an array or a string from an offset on, there is a span, and what it
-- reads in that span is this part of the key, this value, this element, this character.
pub record SpansAreRead : Type 0 where
  pub keys : (text rest part : List ℕ) (at i : ℕ) (k : Key) → IsCharPlace at text → key (key_start (drop at text)) ≡ Some (k, rest) → slice_get (parts k) i ≡ Some part
      → (s : Span) × (key_span (spot at i) text ≡ Some s) × ReadsIn simple_key text s part
  pub values : (text value rest : List ℕ) (at : ℕ) (k : Key) (d : Data) → IsCharPlace at text → key_equals (drop at text) ≡ Some (k, value) → val recursion_limit value ≡ Some (d, rest)
      → (s : Span) × (value_span (spot at (length k.0)) text ≡ Some s) × ReadsIn (val recursion_limit) text s d
  pub elements : (text rest : List ℕ) (at n k : ℕ) (all : Items) (d : Data) → IsCharPlace at text → n ≤ recursion_limit → val (suc n) (drop at text) ≡ Some (array all, rest) → get_item k all ≡ Some d
      → (s : Span) × (element_span k at text ≡ Some s) × ReadsIn (val n) text s d
  pub chars : (text content rest : List ℕ) (at k : ℕ) → IsCharPlace at text → starts_string (drop at text) ≡ true → quoted (drop at text) ≡ Some (content, rest) → k < count_by starts_char content
      → (s : Span) × (char after : List ℕ) × (char_span k at text ≡ Some s) × IsChar content k char after × (s.begin ≤ s.end) × (s.end ≤ length text)
      × Writes (drop at text) (drop s.begin text) (char ++ after) rest × Writes (drop at text) (drop s.end text) after rest
