-- The span of a fault: of the smallest piece of a text that is at fault. If that can't be found, it is that of a larger one, up to
-- the whole table.
use Rattle.std.specs.Prelude.{ℕ, ◌-◌, ◌==◌, ◌&&◌, nat_lt, Bool, true, false, if◌then◌else◌, List, slice_get, codes, Option, Some, None, is_some, unwrap_or, option_map}
use Rattle.std.specs.Bool.{then_some}
use Rattle.std.specs.Option.{option_or}
use Rattle.page_ids.specs.declared.key.Key.{Key}
use Rattle.page_ids.specs.declared.key.Key.TheVariants as key
use Rattle.frame_records.specs.declared.limits.TheConstants.{MOST_LISTED}
use Rattle.abstract_paint.specs.declared.start.Start.{Start}
use Rattle.base_text.specs.declared.keys.Field.{Field}
use Rattle.base_text.specs.declared.keys.Field.TheVariants as field
use Rattle.base_text.specs.declared.keys.TableKind.{TableKind}
use Rattle.base_text.specs.declared.keys.TableKind.TheVariants as kind
use Rattle.base_text.specs.Fields.{field_name, digit_key}
use Rattle.base_text.specs.declared.detail.Detail.{Detail}
use Rattle.base_text.specs.declared.detail.Detail.TheVariants.{UnknownKey, Absent, WrongKind, WrongItem, Number, ItemNumber, Lead, BodyCode, MoreBodyCodes, TooManyRows, BodyAndRows, RowTooLong, RowCode, MoreRowCodes, BadFrame}
use Rattle.base_text.specs.declared.whole_fault.WholeFault.{WholeFault}
use Rattle.base_text.specs.declared.whole_fault.WholeFault.TheVariants.{TooManyFrames, TooManyOutside, BodyTooLong, NextAfterZ, Duplicate, OutsideInside}
use Rattle.base_faults.specs.declared.fault.Fault.{Fault}
use Rattle.base_faults.specs.declared.fault.FaultKind.{FaultKind}
use Rattle.base_faults.specs.declared.fault.FaultKind.TheVariants as fault_kind
use Rattle.lint_words.specs.declared.warning_words.LineEnd.{LineEnd}
use Rattle.lint_words.specs.declared.warning_words.LineEnd.TheVariants.{Feed, Return}
use Rattle.toml_places.specs.Steps.{◌>>=◌}
use Rattle.toml_places.specs.declared.spans.Span.{Span}
use Rattle.toml_places.specs.declared.spans.KeyPlace.{KeyPlace}
use Rattle.toml_places.specs.Spans.{key_span, pair_span, char_span}
use Rattle.lint.specs.Tables.{TableView, value_at}

-- The pieces of a table.

abbrev pub span_of_key : List ℕ → Option KeyPlace → Option Span
span_of_key text spot = spot >>= (λ s. key_span s text)

abbrev pub span_of_pair : List ℕ → Option KeyPlace → Option Span
span_of_pair text spot = spot >>= (λ s. pair_span s text)

-- a key of the table as it is written, its value, and both
abbrev pub key_of : TableView → List ℕ → Option Span
key_of t key = span_of_key t.text (t.key key)

abbrev pub span_of_value : TableView → List ℕ → Option Span
span_of_value t key = value_at t.text (t.key key)

abbrev pub pair_of : TableView → List ℕ → Option Span
pair_of t key = span_of_pair t.text (t.key key)

-- a key below `routes`, and a route with its page; else all of `routes`
abbrev pub route_key : TableView → List ℕ → Option Span
route_key t key = option_or (span_of_key t.text (t.route key)) (span_of_value t (codes "routes"))

abbrev pub route_pair : TableView → List ℕ → Option Span
route_pair t key = option_or (span_of_pair t.text (t.route key)) (span_of_value t (codes "routes"))

-- an item of the table's list, by its index, else all of the list, which is under this key
abbrev pub item_of : TableView → List ℕ → ℕ → Option Span
item_of t key k = option_or (t.item k) (span_of_value t key)

-- a character of the string in a span, by its index, else the string
abbrev pub char_of : TableView → ℕ → Span → Span
char_of t k s = unwrap_or (char_span k s.begin t.text) s

-- the one of two that begins later
abbrev pub later : Option Span → Option Span → Option Span
later None b = b
later (Some a) None = Some a
later (Some a) (Some b) = if nat_lt a.begin b.begin then Some b else Some a

-- Faults of a text.

abbrev pub unknown_at : TableView → TableKind → List ℕ → Option Span
unknown_at t kind.Routes key = route_key t key
unknown_at t kind.Top key = key_of t key
unknown_at t kind.Frame key = key_of t key

abbrev pub digit_at : TableView → ℕ → Option Span
digit_at t digit = if nat_lt digit 10 then route_pair t (digit_key digit) else None

abbrev pub is_routes : Field → Bool
is_routes field.Routes = true
is_routes _ = false

-- an item of a list, by its number from 1, or a route, by its digit
abbrev pub listed_at : TableView → Field → ℕ → Option Span
listed_at t f n = if is_routes f then digit_at t n else item_of t (field_name f) (n - 1)

-- a row, and a character of it, each by its number from 1
abbrev pub span_of_row : TableView → ℕ → Option Span
span_of_row t n = item_of t (codes "rows") (n - 1)

abbrev pub row_char : TableView → ℕ → ℕ → Option Span
row_char t n i = option_map (char_of t (i - 1)) (span_of_row t n)

-- a character of the body, by its index
abbrev pub body_char : TableView → ℕ → Option Span
body_char t k = option_map (char_of t k) (span_of_value t (codes "body"))

-- a missing key of a frame; the frame is marked at its id, if what it shows is missing
abbrev pub absent_at : TableView → Field → Option Span
absent_at t field.Body = span_of_value t (codes "id")
absent_at t _ = None

abbrev pub detail_at : TableView → Detail → Option Span
detail_at t (UnknownKey k key) = unknown_at t k key
detail_at t (Absent f) = absent_at t f
detail_at t (WrongKind f k) = span_of_value t (field_name f)
detail_at t (WrongItem f n k) = listed_at t f n
detail_at t (Number f z) = span_of_value t (field_name f)
detail_at t (ItemNumber f n z) = listed_at t f n
detail_at t (Lead text) = span_of_value t (codes "lead")
detail_at t (BodyCode n c) = body_char t (n - 1)
detail_at t (MoreBodyCodes n more) = body_char t (n - 1)
detail_at t (TooManyRows n) = span_of_row t 23
detail_at t BodyAndRows = later (key_of t (codes "body")) (key_of t (codes "rows"))
detail_at t (RowTooLong n length) = span_of_row t n
detail_at t (RowCode n i c) = row_char t n i
detail_at t (MoreRowCodes n i more) = row_char t n i
detail_at t (BadFrame text) = span_of_value t (codes "id")

abbrev pub detail_span : TableView → Detail → Span
detail_span t detail = unwrap_or (detail_at t detail) t.whole

-- Faults of a base as a whole.

-- the table of a fault: none is the top
abbrev pub whole_table : WholeFault → Option ℕ
whole_table (TooManyFrames n) = Some MOST_LISTED
whole_table (TooManyOutside n) = None
whole_table (BodyTooLong table id n) = Some table
whole_table (NextAfterZ table id) = Some table
whole_table (Duplicate table first id) = Some table
whole_table (OutsideInside page) = None

-- the frame is written with `rows`
abbrev pub has_rows : TableView → Bool
has_rows t = is_some (t.key (codes "rows"))

abbrev pub shown_at : TableView → Option Span
shown_at t = span_of_value t (if has_rows t then codes "rows" else codes "body")

abbrev pub whole_at : TableView → WholeFault → Option Span
whole_at t (TooManyFrames n) = span_of_value t (codes "id")
whole_at t (TooManyOutside n) = item_of t (codes "outside") MOST_LISTED
whole_at t (BodyTooLong table id n) = shown_at t
whole_at t (NextAfterZ table id) = pair_of t (codes "next")
whole_at t (Duplicate table first id) = span_of_value t (codes "id")
whole_at t (OutsideInside page) = span_of_value t (codes "outside")

-- in the table of the fault; an element of `outside` counts first
abbrev pub whole_span : TableView → Option Span → WholeFault → Span
whole_span t element fault = unwrap_or (option_or element (whole_at t fault)) t.whole

-- Faults of an audit.

-- a key that is pressed at a frame
abbrev pub pressed_at : TableView → Key → Option Span
pressed_at t (key.Route digit) = digit_at t digit
pressed_at t key.Next = pair_of t (codes "next")
pressed_at t _ = None

abbrev pub sought_at : TableView → Option Key → Option Span
sought_at t key = key >>= pressed_at t

-- the character of the byte at fault, if it is known
abbrev pub byte_at : TableView → Option Start → Option Span
byte_at t None = span_of_value t (codes "body")
byte_at t (Some start) = body_char t start.offset

-- the last row of the screen is written by the last of the rows
abbrev pub touched_at : TableView → Option Start → Option Span
touched_at t start = if has_rows t then span_of_row t 22 else byte_at t start

abbrev pub kind_at : TableView → Fault → FaultKind → Option Span
kind_at t fault fault_kind.EntryMissing = span_of_value t (codes "entry")
kind_at t fault fault_kind.EntryClosed = span_of_value t (codes "group")
kind_at t fault fault_kind.Price = span_of_value t (codes "price")
kind_at t fault fault_kind.Touches = touched_at t fault.start
kind_at t fault fault_kind.Missing = sought_at t fault.key
kind_at t fault fault_kind.Closed = sought_at t fault.key
kind_at t fault fault_kind.NoReturn = span_of_value t (codes "id")

abbrev pub audit_span : TableView → Fault → Span
audit_span t fault = unwrap_or (kind_at t fault fault.kind) t.whole

-- the span of a row of a frame that is given as rows
abbrev pub row_span : TableView → ℕ → Span
row_span t n = unwrap_or (span_of_row t n) t.whole

-- Warnings.

-- the value of `entry`
abbrev pub entry_span : TableView → Span
entry_span t = unwrap_or (span_of_value t (codes "entry")) t.whole

-- a byte of a text, if it has one there, is this one
abbrev pub is_this_byte : ℕ → Option ℕ → Bool
is_this_byte b None = false
is_this_byte b (Some c) = c == b

-- a span of one byte
abbrev pub is_one : Span → Bool
is_one s = nat_lt s.begin s.end && (s.end - s.begin == 1)

-- a span that is a line feed of the text
abbrev pub feed_span : List ℕ → Span → Option Span
feed_span text s = then_some (is_one s && is_this_byte 0x0A (slice_get text s.begin)) s

-- a span of the text that has a carriage return before it
abbrev pub returned_span : List ℕ → Span → Option Span
returned_span text s = then_some (is_this_byte 0x0D (slice_get text (s.begin - 1))) s

-- a line's end in this way
abbrev pub ended_span : LineEnd → List ℕ → Span → Option Span
ended_span Feed text s = Some s
ended_span Return text s = returned_span text s

-- the code of the body at an index, if the text writes a line's end there in this way
abbrev pub line_end_at : TableView → LineEnd → ℕ → Option Span
line_end_at t end k = (body_char t k >>= feed_span t.text) >>= ended_span end t.text

-- a span of the text that begins with a single quotation mark
abbrev pub single_span : List ℕ → Span → Option Span
single_span text s = then_some (is_this_byte 0x27 (slice_get text s.begin)) s

-- a row, by its number from 1, in single quotation marks
abbrev pub single_at : TableView → ℕ → Option Span
single_at t n = t.item (n - 1) >>= single_span t.text

-- what a frame shows is written under this key
abbrev pub shown_field : TableView → Field
shown_field t = if has_rows t then field.Rows else field.Body

-- the code of the body at an index, if it is known
abbrev pub byte_written : TableView → Option ℕ → Option Span
byte_written t None = span_of_value t (codes "body")
byte_written t (Some k) = body_char t k

-- a row of the screen: of a frame that is given as rows that row, else the code of the body
abbrev pub sight_span : TableView → ℕ → Option ℕ → Span
sight_span t row at = unwrap_or (if has_rows t then span_of_row t row else byte_written t at) t.whole

-- the value of the frame's id
abbrev pub named_span : TableView → Span
named_span t = unwrap_or (span_of_value t (codes "id")) t.whole

-- a missing entry frame is a fault of the top, all else of the frame, which this table writes
abbrev pub kind_table : ℕ → FaultKind → Option ℕ
kind_table table fault_kind.EntryMissing = None
kind_table table _ = Some table
