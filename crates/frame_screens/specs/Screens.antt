-- The screen after frames, and the centre's rows.
use Rattle.std.specs.Prelude.{ℕ, ◌-◌, List, [], ◌∷◌, ◌++◌, Option, Some, None, Bool, true, false, codes, decimal, drop, length, replicate, take, option_and_then}
use Rattle.page_ids.specs.Ids.{Id, frame_text}
use Rattle.frame_records.specs.declared.frame.Frame.{Frame}
use Rattle.frame_records.specs.declared.frame.Lead.{Lead}
use Rattle.frame_records.specs.declared.frame.Lead.TheVariants.{Clear, Keep}
use Rattle.frame_records.specs.Bases.{BaseView, frame_at}
use Rattle.terminal_codes.specs.Screen.{Screen, run}
use Rattle.terminal_codes.specs.Bodies.{lead_codes}
use Rattle.frame_screens.specs.Frames.{last_frame}

-- Frames on a terminal.

-- a terminal as it is switched on: blank (32 is a space), at the first cell
abbrev pub new_terminal : Screen
new_terminal = record { cells = replicate 960 32; at = 0; pending = false; visible = true }

-- a frame sent to a terminal: its lead, and then its body
abbrev pub with_frame : Screen → Frame → Screen
with_frame t f = run (run t (lead_codes f.lead)) f.body

-- frames sent in turn
abbrev pub with_frames : Screen → List Frame → Screen
with_frames t [] = t
with_frames t (f ∷ fs) = with_frames (with_frame t f) fs

-- the records of frames; a frame that the base lacks has none
abbrev pub and_record : List Frame → Option Frame → List Frame
and_record fs None = fs
and_record fs (Some f) = f ∷ fs

abbrev pub records : BaseView → List Id → List Frame
records base [] = []
records base (id ∷ ids) = and_record (records base ids) (frame_at base id)

-- the frame's lead clears the screen
abbrev pub is_clearing : Lead → Bool
is_clearing Clear = true
is_clearing Keep = false

-- What the centre paints: row 0 with the frame's id and price, and an empty row 23.

-- 40 blank cells
abbrev pub blank_row : List ℕ
blank_row = replicate 40 32

-- a text at the end of this many columns, blank before it
abbrev pub at_end : ℕ → List ℕ → List ℕ
at_end columns text = replicate (columns - length text) 32 ++ text

-- a price, as `5p`
abbrev pub price_text : ℕ → List ℕ
price_text price = decimal price ++ codes "p"

-- row 0: the id ends at column 34, the price at column 39
abbrev pub top_row : Frame → List ℕ
top_row f = at_end 35 (frame_text f.id) ++ at_end 5 (price_text f.price)

-- blank without a frame
abbrev pub top_by : Option Frame → List ℕ
top_by None = blank_row
top_by (Some f) = top_row f

-- the cells of rows 1 to 22 between the centre's rows
abbrev pub with_rows : List ℕ → List ℕ → List ℕ
with_rows top cells = (top ++ take 880 (drop 40 cells)) ++ blank_row

-- the record of the last frame
abbrev pub last_record : BaseView → List Id → Option Frame
last_record base ids = option_and_then (frame_at base) (last_frame ids)

-- the codes of the screen after frames of a base, with the centre's rows
abbrev pub screen_codes : BaseView → List Id → List ℕ
screen_codes base ids = with_rows (top_by (last_record base ids)) (with_frames new_terminal (records base ids)).cells
