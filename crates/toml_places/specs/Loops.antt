-- Facts that hold between the turns of loops, and what functions that aren't exported say. No promise rests on them.
use Rattle.toml_parser.specs.Reading.{key_view, path_view}
use Rattle.toml_places.specs.Steps.{◌>>=◌}
use Rattle.toml_places.specs.declared.lines.KeyLine as code_line
use Rattle.std.specs.Prelude.{ℕ, List, option_map, ◌==◌, if◌then◌else◌, ◌&&◌, drop, slice_index, Some, None, length, ◌≡◌, ◌<◌, true, Bool, false, ◌+◌, Result, MatchResult, IsSome}
use Rattle.toml_parser.specs.Strings.{Key, recursion_limit}
use Rattle.toml_places.specs.declared.lines.Sort.{Sort}
use Rattle.toml_parser.specs.Lexical.{Read, right_bracket, left_bracket, first, skip_ws}
use Rattle.toml.specs.Parse.{after_byte, header_key, key_equals, ends_line, parse_document}
use Rattle.toml_places.specs.declared.lines.Sort.TheVariants.{ArrayTable, Pair, Table}
use Rattle.toml_places.specs.Values.{after_value, TablePair as PairView}
use Rattle.toml_places.specs.declared.tables.Pair as code_pair
use Rattle.toml_places.specs.declared.places.Places.{Places}
use Rattle.toml_places.specs.declared.places.Section as code_section
use Rattle.toml_places.specs.Places.{Section, is_frame, marks, Keeps}
use Rattle.toml_parser.specs.declared.error.ParseError.{ParseError}
use Rattle.toml_parser.specs.declared.error.ParseError.TheVariants.{OutOfMemory}

-- What the code has of expressions, inline tables and sections.

-- the key of an expression, and its kind
abbrev pub KeyLine : Type 0
KeyLine = Key × Sort

-- an expression of the code
abbrev pub line_view : code_line.KeyLine → KeyLine
line_view e = (key_view e.key, e.sort)

-- a pair of an inline table of the code, and what follows it
abbrev pub pair_view : code_pair.Pair → PairView × List ℕ
pair_view p = (record { path = path_view p.path.items; start = p.start.now }, p.next.now)

-- how many frames the places have
abbrev pub frame_count : Places → ℕ
frame_count p = length p.frames.items

-- a section of the code, after this many frames
abbrev pub section_view : ℕ → code_section.Section → Section
section_view frames s = record { frames = frames; in_frame = s.in_frame; path = path_view s.path.items }

-- The text after an expression.

-- a header in double brackets
unfoldable pub array_header : List ℕ → Read KeyLine
array_header text = header_key text >>= (λ k. option_map (λ rest. ((k.0, ArrayTable), rest)) (after_byte right_bracket k.1))

-- a pair
unfoldable pub pair : List ℕ → Read KeyLine
pair text = key_equals text >>= (λ k. option_map (λ rest. ((k.0, Pair), rest)) (after_value recursion_limit k.1))

-- an expression
unfoldable pub opened_after : List ℕ → Read KeyLine
opened_after text =
    if first text == left_bracket && slice_index text 1 == left_bracket then array_header (drop 2 text)
    else if first text == left_bracket then option_map (λ k. ((k.0, Table), k.1)) (header_key (drop 1 text))
    else pair text

-- an expression that has its line to itself
unfoldable pub whole_line : List ℕ → Read KeyLine
whole_line text = opened_after text >>= (λ e. if ends_line (skip_ws e.1) then Some e else None)

-- The walk over a text's expressions.

-- a section in a frame has such a frame
abbrev pub IsOpen : Section → Type 0
IsOpen s = s.in_frame ≡ true → 0 < s.frames

-- a header in double brackets, with these parts, that opens a frame
abbrev pub opens : Sort → List (List ℕ) → Bool
opens Pair parts = false
opens Table parts = false
opens ArrayTable parts = is_frame parts

-- how many frames there are after a header
abbrev pub frames_after : Sort → List (List ℕ) → ℕ → ℕ
frames_after sort parts n = if opens sort parts then n + 1 else n

-- The places have the marks of the text, if it is TOML. Without memory they may not, and else the text isn't TOML.
abbrev pub Walks : Result (Unit {0}) ParseError → List ℕ → Places → Type 0
Walks r text places =
    MatchResult r (λ _. IsSome (parse_document text) → Keeps places (marks text)) (λ e. (e ≡ OutOfMemory → ⊥) → parse_document text ≡ None)
