-- What may be wrong with what frames show, by their codes alone; how the text writes it decides.
use Rattle.std.specs.Prelude.{ℕ, zero, suc, Bool, ◌==◌, ◌&&◌, ◌||◌, not, nat_le, ◌+◌, ◌%◌, false, true, if◌then◌else◌, List, [], ◌∷◌, ◌++◌, replicate, Option, Some, None, is_some}
use Rattle.std.specs.List.{list_any}
use Rattle.page_ids.specs.Ids.{Id}
use Rattle.frame_records.specs.declared.frame.Frame.{Frame}
use Rattle.terminal_codes.specs.Screen.{Screen, CaretView, run}
use Rattle.terminal_codes.specs.Writes.{caret_step}
use Rattle.screens.specs.Looks.{codes_of_row, hides_text}
use Rattle.lint_words.specs.declared.warning_words.LineEnd.{LineEnd}
use Rattle.lint_words.specs.declared.warning_words.LineEnd.TheVariants.{Feed, Return}
use Rattle.lint.specs.declared.looks.Look.{Look}
use Rattle.lint.specs.declared.looks.Look.TheVariants.{Hidden, Escape, EndsLine}

abbrev pub blank : Screen
blank = record { cells = replicate 960 0x20; at = 0; pending = false; visible = true }

-- The rows of a frame, as if it were given as rows.

-- the four codes of \u00 come first
abbrev pub begins_escape : List ℕ → Bool
begins_escape (a ∷ b ∷ c ∷ d ∷ rest) = (a == 0x5C) && ((b == 0x75) && ((c == 0x30) && (d == 0x30)))
begins_escape _ = false

-- they are somewhere
abbrev pub holds_escape : List ℕ → Bool
holds_escape [] = false
holds_escape (b ∷ bs) = begins_escape (b ∷ bs) || holds_escape bs

-- a row with the frame, if its text is hidden, and if it holds \u00
abbrev pub row_warnings : Id → List ℕ → ℕ → List (Id × Look)
row_warnings id cells r =
    (if hides_text cells r then (id, Hidden r) ∷ [] else []) ++
    (if holds_escape (codes_of_row cells r) then (id, Escape r) ∷ [] else [])

-- those of the rows of a screen, from 1 to this number
unfoldable pub rows_up_to : Id → List ℕ → ℕ → List (Id × Look)
rows_up_to id cells zero = []
rows_up_to id cells (suc n) = rows_up_to id cells n ++ row_warnings id cells (suc n)

-- those of a blank screen after a frame's body
abbrev pub body_warnings : Frame → List (Id × Look)
body_warnings f = rows_up_to f.id (run blank f.body).cells 22

-- rows have no escapes of the terminal, so without the byte 8D none has double height; nor does one hold \u00 without a \
abbrev pub needs_rows : List ℕ → Bool
needs_rows body = list_any (λ b. b == 0x8D) body || list_any (λ b. b == 0x5C) body

abbrev pub rows_if : Frame → List (Id × Look)
rows_if f = if needs_rows f.body then body_warnings f else []

-- The line feeds of a body.

-- the byte leaves another column than the first by this code
abbrev pub leaves_by : ℕ → CaretView → ℕ → Bool
leaves_by code c b = (b == code) && not (c.at % 40 == 0)

-- the byte is a line feed, in another column than the first or after a return from one
abbrev pub ends_line : LineEnd → CaretView → Bool → ℕ → Bool
ends_line Feed c returned b = leaves_by 0x0A c b
ends_line Return c returned b = (b == 0x0A) && returned

abbrev pub feed_at : LineEnd → CaretView → Bool → ℕ → ℕ → Option ℕ
feed_at end c returned b n = if ends_line end c returned b then Some n else None

-- the index of the first such line feed that a code of 20 or more follows: that of the byte before, if it is one, or a later one
abbrev pub feed_from : LineEnd → CaretView → Bool → Option ℕ → ℕ → List ℕ → Option ℕ
feed_from end c returned feed n [] = None
feed_from end c returned feed n (b ∷ bs) =
    if nat_le 0x20 b && is_some feed then feed
    else feed_from end (caret_step c b) (leaves_by 0x0D c b) (feed_at end c returned b n) (n + 1) bs

-- that of a body that is sent after a cleared screen
abbrev pub line_end_of : LineEnd → List ℕ → Option ℕ
line_end_of end body = feed_from end (record { at = 40; pending = false }) false None 0 body

abbrev pub line_end_if : Id → LineEnd → Option ℕ → List (Id × Look)
line_end_if id end None = []
line_end_if id end (Some n) = (id, EndsLine end n) ∷ []
