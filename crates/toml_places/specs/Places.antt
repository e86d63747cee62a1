-- The places of the marks of a text.
use Rattle.std.specs.Prelude.{ℕ, zero, suc, ◌+◌, ◌-◌, Bool, false, ◌&&◌, ◌==◌, nat_lt, if◌then◌else◌, List, [], ◌∷◌, ◌++◌, length, codes, Option, Some, None, ◌≡◌, true, slice_get, unwrap_or, ◌<◌, ◌≤◌, is_some, map}
use Rattle.std.specs.Option.{option_map_or, option_or}
use Rattle.std.specs.Str.{bytes_eq}
use Rattle.toml_parser.specs.Lexical.{skip_blank}
use Rattle.toml_parser.specs.Strings.{Key}
use Rattle.toml.specs.Tables.{Expression}
use Rattle.toml.specs.Parse.{line, skip_bom, parse_document}
use Rattle.toml_places.specs.declared.lines.Sort.{Sort}
use Rattle.toml_places.specs.declared.lines.Sort.TheVariants.{Pair, Table, ArrayTable}
use Rattle.toml_places.specs.Skips.{sort_of}
use Rattle.std.specs.BTreeMap.{get_by_text}
use Rattle.toml_places.specs.declared.places.Places.{Places}
use Rattle.toml_places.specs.declared.tables.TablePlaces.{TablePlaces}
use Rattle.toml_places.specs.declared.spans.KeyPlace.{KeyPlace}
use Rattle.toml_places.specs.Values.{TablePair as InlinePair, pairs}
use Rattle.toml_places.specs.Spans.{from_offset}
use Rattle.std.specs.List.{count_by}
use Rattle.toml.specs.Data.{Items, no_items, item, Members, array, get_member}

-- Where the expressions of a text begin, and what each of them writes.

-- the offset of an expression's first byte, how many parts its own key has, the frame that it writes in (none for the top),
-- and its keys in there, of which the last are its own
pub record Mark : Type 0 where
  pub at : ℕ
  pub parts : ℕ
  pub frame : Option ℕ
  pub path : List (List ℕ)

-- After an expression: how many headers [[frame]] came so far, whether the latest header of all leads into the frame that the
-- latest of them opened, and the keys of that header, in the frame or in the top.
pub record Section : Type 0 where
  pub frames : ℕ
  pub in_frame : Bool
  pub path : List (List ℕ)

-- before the first expression
abbrev pub top : Section
top = record { frames = 0; in_frame = false; path = [] }

abbrev pub frame_key : List ℕ
frame_key = codes "frame"

abbrev pub parts : Key → List (List ℕ)
parts key = key.0 ++ key.1 ∷ []

-- the parts of a header [[frame]], however it is spelled
abbrev pub is_frame : List (List ℕ) → Bool
is_frame (part ∷ []) = bytes_eq part frame_key
is_frame _ = false

-- the section of a header with these parts, after this many headers [[frame]]
abbrev pub section_at : ℕ → List (List ℕ) → Section
section_at frames [] = record { frames = frames; in_frame = false; path = [] }
section_at frames (part ∷ rest) =
    let inside = nat_lt 0 frames && bytes_eq part frame_key in
    record { frames = frames; in_frame = inside; path = if inside then rest else part ∷ rest }

-- A pair stays in its section. A header [[frame]] opens the next frame.
abbrev pub section_after : Section → Key → Sort → Section
section_after s key Pair = s
section_after s key Table = section_at s.frames (parts key)
section_after s key ArrayTable = section_at (if is_frame (parts key) then s.frames + 1 else s.frames) (parts key)

-- the keys of an expression in its section: a header has them all there
abbrev pub own_parts : Key → Sort → List (List ℕ)
own_parts key Pair = parts key
own_parts key Table = []
own_parts key ArrayTable = []

-- the frame that a section writes in
abbrev pub frame_of : Section → Option ℕ
frame_of s = if s.in_frame then Some (s.frames - 1) else None

-- what an expression at this offset, with this many parts, writes, whose section is this
abbrev pub mark_in : Section → List (List ℕ) → ℕ × ℕ → Mark
mark_in s own w = record { at = w.0; parts = w.1; frame = frame_of s; path = s.path ++ own }

abbrev pub next_section : Section → Expression → Section
next_section s e = section_after s e.0 (sort_of e.1)

abbrev pub mark_of : Section → Expression → ℕ → Mark
mark_of s e at = mark_in (next_section s e) (own_parts e.0 (sort_of e.1)) (at, length (parts e.0))

-- What is written in the rest of a text of `size` bytes, which has fewer than n expressions. Where a line is no expression
-- the list ends.
unfoldable pub marks_from : ℕ → ℕ → Section → List ℕ → List Mark
marks_from size zero s text = []
marks_from size (suc n) s text =
    let start = skip_blank text in
    if length start == 0 then []
    else option_map_or (λ e. mark_of s e.0 (size - length start) ∷ marks_from size n (next_section s e.0) e.1) (line start) []

-- what each expression of a text writes, in the order of the text
unfoldable pub marks : List ℕ → List Mark
marks text = marks_from (length text) (suc (length text)) top (skip_bom text)

-- The places of a base's text: where its keys are first written, frame by frame.

abbrev pub same_frame : Option ℕ → Option ℕ → Bool
same_frame None None = true
same_frame (Some k) (Some l) = k == l
same_frame _ _ = false

-- the path begins with these keys
abbrev pub path_begins : List (List ℕ) → List (List ℕ) → Bool
path_begins [] path = true
path_begins (k ∷ keys) [] = false
path_begins (k ∷ keys) (part ∷ path) = bytes_eq k part && path_begins keys path

abbrev pub is_under : Option ℕ → List (List ℕ) → Mark → Bool
is_under frame keys m = same_frame frame m.frame && path_begins keys m.path

-- what is seen of the first of these marks that writes in this frame, or the top, below these keys
abbrev pub first_by : {X : Type 0} → (Mark → X) → List Mark → Option ℕ → List (List ℕ) → Option X
first_by see [] frame keys = None
first_by see (m ∷ ms) frame keys = if is_under frame keys m then Some (see m) else first_by see ms frame keys

-- its offset
abbrev pub first_at : List Mark → Option ℕ → List (List ℕ) → Option ℕ
first_at ms frame keys = first_by (λ m. m.at) ms frame keys

-- Where an expression at this offset, with this many parts, writes the key of a number, from 0, in a path of this many: the keys
-- from it on are its last parts.
abbrev pub spot_at : ℕ → ℕ → ℕ → ℕ → KeyPlace
spot_at at parts len k = record { at = at; part = parts - (len - k) }

abbrev pub spot_of : ℕ → Mark → KeyPlace
spot_of k m = spot_at m.at m.parts (length m.path) k

-- where the last of these keys is first written
abbrev pub first_spot : List Mark → Option ℕ → List (List ℕ) → Option KeyPlace
first_spot ms frame keys = first_by (spot_of (length keys - 1)) ms frame keys

abbrev pub routes_key : List ℕ
routes_key = codes "routes"

-- The place of a frame is its header; of a frame in an inline array, the key `frame` of the top.
abbrev pub header_place : List Mark → ℕ → ℕ
header_place ms frame = unwrap_or (option_or (first_at ms (Some frame) []) (first_at ms None (frame_key ∷ []))) 0

-- the place of a key in a frame, or the frame's; of a key of the top, or the start of the text
abbrev pub key_place : List Mark → Option ℕ → List ℕ → ℕ
key_place ms None key = unwrap_or (first_at ms None (key ∷ [])) 0
key_place ms (Some frame) key = unwrap_or (first_at ms (Some frame) (key ∷ [])) (header_place ms frame)

-- the place of a key below `routes`, or that of `routes`
abbrev pub route_place : List Mark → ℕ → List ℕ → ℕ
route_place ms frame sub = unwrap_or (first_at ms (Some frame) (routes_key ∷ sub ∷ [])) (key_place ms (Some frame) routes_key)

abbrev pub at_if : {X : Type 0} → Bool → X → Option X
at_if b x = if b then Some x else None

-- there is such a part, and it is this key
abbrev pub is_key_part : Option (List ℕ) → List ℕ → Bool
is_key_part None key = false
is_key_part (Some part) key = bytes_eq key part

-- a table's places after an expression at this offset, whose path begins with these two keys, which are written at these spots
pub record NotesTable (old new : TablePlaces) (one two : Option (List ℕ)) (at : ℕ) (first second : KeyPlace) : Type 0 where
  pub header : new.header ≡ option_or old.header (Some at)
  pub keys : (q : List ℕ) → get_by_text new.keys q ≡ option_or (get_by_text old.keys q) (at_if (is_key_part one q) first)
  pub routes : (q : List ℕ) → get_by_text new.routes q ≡ option_or (get_by_text old.routes q) (at_if (is_key_part one routes_key && is_key_part two q) second)

-- what is in the places of a frame, if it has some
abbrev pub header_in : Option TablePlaces → Option ℕ
header_in None = None
header_in (Some f) = f.header

abbrev pub key_in : Option TablePlaces → List ℕ → Option KeyPlace
key_in None q = None
key_in (Some f) q = get_by_text f.keys q

abbrev pub route_in : Option TablePlaces → List ℕ → Option KeyPlace
route_in None q = None
route_in (Some f) q = get_by_text f.routes q

-- the spot that places have of a key of the top or of a frame, and of one below `routes` of a frame
abbrev pub kept_key : Places → Option ℕ → List ℕ → Option KeyPlace
kept_key p None q = get_by_text p.top q
kept_key p (Some k) q = key_in (slice_get p.frames.items k) q

abbrev pub kept_route : Places → ℕ → List ℕ → Option KeyPlace
kept_route p k q = route_in (slice_get p.frames.items k) q

-- the places have the first spot of each of these marks
pub record Keeps (p : Places) (ms : List Mark) : Type 0 where
  pub tops : (q : List ℕ) → get_by_text p.top q ≡ first_spot ms None (q ∷ [])
  pub headers : (k : ℕ) → header_in (slice_get p.frames.items k) ≡ first_at ms (Some k) []
  pub keys : (k : ℕ) (q : List ℕ) → key_in (slice_get p.frames.items k) q ≡ first_spot ms (Some k) (q ∷ [])
  pub routes : (k : ℕ) (q : List ℕ) → route_in (slice_get p.frames.items k) q ≡ first_spot ms (Some k) (routes_key ∷ q ∷ [])

-- The pairs of an inline table, in the text from an offset on.

-- what a pair with these parts writes
abbrev pub inline_mark : ℕ → List (List ℕ) → Mark
inline_mark at path = record { at = at; parts = length path; frame = None; path = path }

-- in a text of `size` bytes
abbrev pub pair_mark : ℕ → InlinePair → Mark
pair_mark size p = inline_mark (size - length p.start) p.path

abbrev pub table_marks : ℕ → List ℕ → List Mark
table_marks at text = map (pair_mark (length text)) (option_map_or pairs (from_offset at text) [])

-- the places of a table have the first spot of each of these marks
pub record TableKeeps (t : TablePlaces) (ms : List Mark) : Type 0 where
  pub keys : (q : List ℕ) → get_by_text t.keys q ≡ first_spot ms None (q ∷ [])
  pub routes : (q : List ℕ) → get_by_text t.routes q ≡ first_spot ms None (routes_key ∷ q ∷ [])

-- The laws of places, over the definitions.

-- the mark is that of a frame's header
abbrev pub opens_frame : Mark → Bool
opens_frame m = is_some m.frame && length m.path == 0

-- how many of the marks open a frame
abbrev pub header_count : List Mark → ℕ
header_count ms = count_by opens_frame ms

abbrev pub item_count : Items → ℕ
item_count no_items = 0
item_count (item d ds) = item_count ds + 1

-- If a text is TOML and has a header [[frame]], the array at `frame` has one element for each such header.
unfoldable pub HeadersAreFrames : Type 0
HeadersAreFrames =
    (text : List ℕ) (ms : Members) → parse_document text ≡ Some ms → 0 < header_count (marks text)
    → (frames : Items) × (get_member frame_key ms ≡ Some (array frames)) × (item_count frames ≡ header_count (marks text))

-- No place is past the end of its text.
unfoldable pub PlacesAreWithin : Type 0
PlacesAreWithin =
    (text : List ℕ) (frame : ℕ) (key : List ℕ)
    → (header_place (marks text) frame ≤ length text) × (key_place (marks text) None key ≤ length text)
    × (key_place (marks text) (Some frame) key ≤ length text) × (route_place (marks text) frame key ≤ length text)
