-- Where a text writes a table, the top or a frame.
use Rattle.std.specs.Prelude.{ℕ, Bool, ◌&&◌, ◌==◌, not, List, [], ◌∷◌, codes, Option, Some, None, unwrap_or}
use Rattle.std.specs.List.{prefix_len}
use Rattle.std.specs.Option.{option_or}
use Rattle.toml_places.specs.Steps.{◌>>=◌}
use Rattle.toml_places.specs.declared.spans.Span.{Span}
use Rattle.toml_places.specs.declared.spans.KeyPlace.{KeyPlace}
use Rattle.toml_places.specs.Places.{Mark, first_at, first_spot, frame_key, routes_key, header_place, table_marks}
use Rattle.toml_places.specs.Spans.{value_span, frame_span, element_span, pair_span}

abbrev pub empty_at : ℕ → Span
empty_at at = record { begin = at; end = at }

-- What contracts see.

-- A table of a text: none is the top, else the frame of an index. The span of all of it: of the top line 1, of a frame its header,
-- or its braces. Where its keys and those of its `routes` are first written, and the elements of its list: the top's `outside`,
-- a frame's `rows`.
pub record TableView : Type 0 where
  pub text : List ℕ
  pub frame : Option ℕ
  pub whole : Span
  pub key : List ℕ → Option KeyPlace
  pub route : List ℕ → Option KeyPlace
  pub item : ℕ → Option Span

-- Where they are, with these marks.

-- a line end is LF or CR LF, and a CR is in TOML a part of one
abbrev pub is_in_line : ℕ → Bool
is_in_line byte = not (byte == 0x0A) && not (byte == 0x0D)

-- line 1, without its end
abbrev pub line_one : List ℕ → Span
line_one text = record { begin = 0; end = prefix_len is_in_line text }

-- the value of the key at a spot
abbrev pub value_at : List ℕ → Option KeyPlace → Option Span
value_at text spot = spot >>= (λ s. value_span s text)

-- an element of it
abbrev pub element_at : List ℕ → Option KeyPlace → ℕ → Option Span
element_at text spot k = value_at text spot >>= (λ v. element_span k v.begin text)

-- what the pairs of the inline table of a span write
abbrev pub inline_marks : List ℕ → Option Span → List Mark
inline_marks text None = []
inline_marks text (Some s) = table_marks s.begin text

-- the table of a frame in an array `frame = [..]`
abbrev pub frame_element : List ℕ → List Mark → Option ℕ → Option Span
frame_element text ms None = None
frame_element text ms (Some k) = element_at text (first_spot ms None (frame_key ∷ [])) k

abbrev pub header_span : List ℕ → List Mark → ℕ → Option Span
header_span text ms k = first_at ms (Some k) [] >>= (λ at. frame_span at text)

abbrev pub frame_whole : List ℕ → List Mark → ℕ → Span
frame_whole text ms k =
    unwrap_or (option_or (header_span text ms k) (frame_element text ms (Some k))) (empty_at (header_place ms k))

abbrev pub whole : List ℕ → List Mark → Option ℕ → Span
whole text ms None = line_one text
whole text ms (Some k) = frame_whole text ms k

abbrev pub key_spot : List ℕ → List Mark → Option ℕ → List ℕ → Option KeyPlace
key_spot text ms frame key =
    option_or (first_spot ms frame (key ∷ [])) (first_spot (inline_marks text (frame_element text ms frame)) None (key ∷ []))

-- no key below `routes` of the top is sought
abbrev pub route_among : List Mark → Option ℕ → List ℕ → Option KeyPlace
route_among ms None key = None
route_among ms (Some k) key = first_spot ms (Some k) (routes_key ∷ key ∷ [])

abbrev pub dotted_spot : List ℕ → List Mark → Option ℕ → List ℕ → Option KeyPlace
dotted_spot text ms frame key =
    option_or (route_among ms frame key) (first_spot (inline_marks text (frame_element text ms frame)) None (routes_key ∷ key ∷ []))

-- the pairs of `routes = { .. }`
abbrev pub routes_marks : List ℕ → List Mark → Option ℕ → List Mark
routes_marks text ms frame = inline_marks text (value_at text (key_spot text ms frame routes_key))

abbrev pub route_spot : List ℕ → List Mark → Option ℕ → List ℕ → Option KeyPlace
route_spot text ms frame key = option_or (dotted_spot text ms frame key) (first_spot (routes_marks text ms frame) None (key ∷ []))

abbrev pub list_key : Option ℕ → List ℕ
list_key None = codes "outside"
list_key (Some k) = codes "rows"

abbrev pub table_at : List ℕ → List Mark → Option ℕ → TableView
table_at text ms frame = record {
  text = text;
  frame = frame;
  whole = whole text ms frame;
  key = key_spot text ms frame;
  route = route_spot text ms frame;
  item = element_at text (key_spot text ms frame (list_key frame));
}

-- the value of a frame's id; of a frame without one its header, or its braces
abbrev pub id_span : List ℕ → List Mark → ℕ → Span
id_span text ms k = unwrap_or (value_at text (key_spot text ms (Some k) (codes "id"))) (frame_whole text ms k)

-- where the id of a frame is written, or its table in an array
abbrev pub offset_or : Option KeyPlace → ℕ → ℕ
offset_or None at = at
offset_or (Some s) at = s.at

abbrev pub id_place : List ℕ → List Mark → ℕ → ℕ
id_place text ms k = offset_or (first_spot ms (Some k) (codes "id" ∷ [])) (frame_whole text ms k).begin

-- the pair that writes what a frame shows: its rows, else its body
abbrev pub picture_span : List ℕ → List Mark → ℕ → Option Span
picture_span text ms k =
    option_or (key_spot text ms (Some k) (codes "rows")) (key_spot text ms (Some k) (codes "body")) >>= (λ s. pair_span s text)
