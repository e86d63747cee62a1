-- The spans of a text: where a key, a value, a header, an element or a character is written in it.
use Rattle.std.specs.Prelude.{ℕ, ℤ, ◌-◌, Bool, ◌&&◌, ◌==◌, nat_le, if◌then◌else◌, List, length, drop, slice_index, Option, Some, None, option_map}
use Rattle.toml_parser.specs.Lexical.{left_bracket, right_bracket, dot, first, skip_ws}
use Rattle.toml_parser.specs.Strings.{recursion_limit}
use Rattle.toml_parser.specs.Numbers.{unquoted}
use Rattle.toml_parser.specs.declared.scalar.Scalar.{Scalar}
use Rattle.toml_parser.specs.declared.scalar.Scalar.TheVariants.{Integer}
use Rattle.toml.specs.Parse.{after_byte}
use Rattle.toml_places.specs.Steps.{◌>>=◌}
use Rattle.toml_places.specs.declared.spans.Span.{Span}
use Rattle.toml_places.specs.declared.spans.KeyPlace.{KeyPlace}
use Rattle.toml_places.specs.Strings.{TextPart, starts_char, after_part, part_from, after_key, value_from, string_char}
use Rattle.toml_places.specs.Values.{after_value, element}

-- the text from an offset on, if a character begins there or it is the end
unfoldable pub from_offset : ℕ → List ℕ → Option (List ℕ)
from_offset at text = if nat_le at (length text) && starts_char (slice_index text at) then Some (drop at text) else None

-- the span of a piece
abbrev pub span_in : List ℕ → TextPart → Span
span_in text p = record { begin = length text - length p.0; end = length text - length p.1 }

-- a piece from here on, if it ends
abbrev pub up_to : List ℕ → Option (List ℕ) → Option TextPart
up_to start end = option_map (λ rest. (start, rest)) end

abbrev pub is_header : List ℕ → Bool
is_header text = first text == left_bracket

abbrev pub is_double : List ℕ → Bool
is_double text = slice_index text 1 == left_bracket

-- from the key of an expression on
unfoldable pub key_start : List ℕ → List ℕ
key_start text = if is_header text then (if is_double text then skip_ws (drop 2 text) else skip_ws (drop 1 text)) else text

-- after the closing brackets of a header
unfoldable pub after_header : List ℕ → Option (List ℕ)
after_header text =
    after_key recursion_limit (key_start text) >>= (λ rest. after_byte right_bracket (skip_ws rest) >>= (λ more.
    if is_double text then after_byte right_bracket more else Some more))

-- a part of an expression's key, with its quotation marks
unfoldable pub key_piece : ℕ → List ℕ → Option TextPart
key_piece part text = part_from part (key_start text) >>= (λ start. up_to start (after_part start))

-- after the value of a pair, from its key on
unfoldable pub after_pair : List ℕ → Option (List ℕ)
after_pair text = value_from recursion_limit text >>= after_value recursion_limit

-- The value of a key. Of one with a dot after it, which makes a table, it is the key from there on.
unfoldable pub value_or_key : List ℕ → Option TextPart
value_or_key text =
    after_part text >>= (λ rest.
    if first (skip_ws rest) == dot then up_to text (after_key recursion_limit text)
    else value_from recursion_limit text >>= (λ value. up_to value (after_value recursion_limit value)))

-- the value of a part of a pair's key; of a header, which makes a table, the header
unfoldable pub value_piece : ℕ → List ℕ → Option TextPart
value_piece part text = if is_header text then up_to text (after_header text) else part_from part text >>= value_or_key

-- a pair from a part of its key on; of a header the header
unfoldable pub pair_piece : ℕ → List ℕ → Option TextPart
pair_piece part text =
    if is_header text then up_to text (after_header text) else part_from part text >>= (λ start. up_to start (after_pair start))

-- a header with its brackets; of a frame in an inline array, its table
unfoldable pub frame_piece : List ℕ → Option TextPart
frame_piece text = if is_header text then up_to text (after_header text) else up_to text (after_value recursion_limit text)

-- The spans of these pieces, each from an offset on.
abbrev pub at_offset : (List ℕ → Option TextPart) → ℕ → List ℕ → Option Span
at_offset piece at text = option_map (span_in text) (from_offset at text >>= piece)

abbrev pub key_span : KeyPlace → List ℕ → Option Span
key_span spot text = at_offset (key_piece spot.part) spot.at text

abbrev pub value_span : KeyPlace → List ℕ → Option Span
value_span spot text = at_offset (value_piece spot.part) spot.at text

abbrev pub pair_span : KeyPlace → List ℕ → Option Span
pair_span spot text = at_offset (pair_piece spot.part) spot.at text

abbrev pub frame_span : ℕ → List ℕ → Option Span
frame_span at text = at_offset frame_piece at text

abbrev pub element_span : ℕ → ℕ → List ℕ → Option Span
element_span k at text = at_offset (element k) at text

abbrev pub char_span : ℕ → ℕ → List ℕ → Option Span
char_span k at text = at_offset (string_char k) at text

-- the integer that is written at an offset
abbrev pub integer_of : Scalar → Option ℤ
integer_of (Integer n) = Some n
integer_of _ = None

abbrev pub integer_in : List ℕ → Option ℤ
integer_in text = unquoted text >>= (λ p. integer_of p.0)

abbrev pub integer_at : ℕ → List ℕ → Option ℤ
integer_at at text = from_offset at text >>= integer_in
