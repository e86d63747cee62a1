-- The rows of the centre, and the way back to where the cursor was.
use Rattle.std.specs.Prelude.{ℕ, ◌/◌, ◌%◌, ◌&&◌, Bool, List, [], ◌∷◌, ◌++◌, get_or, map, nat_le, nat_lt, replicate, if◌then◌else◌}
use Rattle.std.specs.List.{range_with_len}
use Rattle.terminal_codes.specs.declared.caret.Caret.{Caret}

-- Rows 0 and 23.

-- a character, 20 to 7F, as it is; any other code as a blank (32 is a space)
abbrev pub plain_code : ℕ → ℕ
plain_code b = if nat_le 32 b && nat_lt b 128 then b else 32

-- the character of a text in a column, blank past its end
abbrev pub cell_in : List ℕ → ℕ → ℕ
cell_in text column = plain_code (get_or text column 32)

-- 40 columns of a text
unfoldable pub text_row : List ℕ → List ℕ
text_row text = map (cell_in text) (range_with_len 0 40)

-- home (1E), and row 0
abbrev pub top_bytes : List ℕ → List ℕ
top_bytes text = 30 ∷ text_row text

-- home, a row up (0B), which is row 23, and this row
abbrev pub bottom_bytes : List ℕ → List ℕ
bottom_bytes text = 30 ∷ 11 ∷ text_row text

-- The way back.

-- an escape (1B), if one was pending
abbrev pub pending_escape : Bool → List ℕ
pending_escape pending = if pending then 27 ∷ [] else []

-- home, rows down (0A), columns on (09), and the pending escape
abbrev pub back_bytes : Caret → List ℕ
back_bytes c = 30 ∷ (replicate (c.at / 40) 10 ++ (replicate (c.at % 40) 9 ++ pending_escape c.pending))
