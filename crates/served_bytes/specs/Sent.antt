-- What the centre sends to a caller's terminal.
use Rattle.std.specs.Prelude.{ℕ, false, List, [], ◌∷◌, ◌++◌}
use Rattle.terminal_codes.specs.declared.caret.Caret.{Caret}
use Rattle.terminal_codes.specs.Writes.{caret_run}
use Rattle.served_bytes.specs.Rows.{top_bytes, bottom_bytes, back_bytes}
use Rattle.served_bytes.specs.Seven.{in_seven}

-- cursor visible (11), clear (0C): every terminal is then a new one
abbrev pub opening_bytes : List ℕ
opening_bytes = 17 ∷ 12 ∷ []

-- where a new terminal is
abbrev pub home : Caret
home = record { at = 0; pending = false }

-- what is sent in one go: the bytes of a frame, with a text for row 0 and an empty row 23; or a text for row 23 alone
pub data Sending : Type 0 where
  Paints : (frame top : List ℕ) → Sending
  Says : (words : List ℕ) → Sending

-- where the frames leave a terminal: the centre's rows don't move it
abbrev pub caret_after : Caret → Sending → Caret
caret_after c (Paints frame top) = caret_run c frame
caret_after c (Says words) = c

-- the frame in seven bits, the centre's rows, and the way back to where the frames left the terminal
abbrev pub sending_bytes : Caret → Sending → List ℕ
sending_bytes c (Paints frame top) = in_seven frame ++ (top_bytes top ++ (bottom_bytes [] ++ back_bytes (caret_run c frame)))
sending_bytes c (Says words) = bottom_bytes words ++ back_bytes c

-- one after another, from where the terminal is
abbrev pub sent_bytes : Caret → List Sending → List ℕ
sent_bytes c [] = []
sent_bytes c (s ∷ more) = sending_bytes c s ++ sent_bytes (caret_after c s) more
