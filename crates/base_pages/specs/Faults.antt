-- The faults of a base, frame by frame, in HTML.
use Rattle.std.specs.Prelude.{ℕ, ◌==◌, ◌&&◌, ◌+◌, ◌++◌, not, Bool, true, false, List, [], ◌∷◌, Option, Some, None, codes, filter, get_or, nat_lt, slice_get, take, if◌then◌else◌}
use Rattle.std.specs.List.{flat_map}
use Rattle.page_ids.specs.Ids.{Id, id_eq}
use Rattle.frame_records.specs.declared.frame.Frame.{Frame}
use Rattle.terminal_codes.specs.declared.caret.Caret.{Caret}
use Rattle.terminal_codes.specs.Bodies.{lead_codes}
use Rattle.terminal_codes.specs.Writes.{caret_run}
use Rattle.abstract_paint.specs.declared.start.Start.{Start}
use Rattle.base_faults.specs.declared.fault.Fault.{Fault}
use Rattle.base_faults.specs.declared.fault.FaultKind.{FaultKind}
use Rattle.base_faults.specs.declared.fault.FaultKind.TheVariants.{EntryMissing, EntryClosed, Price, Touches, Missing, Closed, NoReturn}
use Rattle.audit_report.specs.ReportLines.{words_as}
use Rattle.screens.specs.Svg.{Piece}
use Rattle.base_pages.specs.Elements.{element_pieces, around}

-- the fault is that the entry frame isn't found
abbrev pub is_entry_kind : FaultKind → Bool
is_entry_kind EntryMissing = true
is_entry_kind EntryClosed = true
is_entry_kind Price = false
is_entry_kind Touches = false
is_entry_kind Missing = false
is_entry_kind Closed = false
is_entry_kind NoReturn = false

-- another fault, about the frame of an id
abbrev pub is_about : Id → Fault → Bool
is_about id fault = not (is_entry_kind fault.kind) && id_eq fault.frame id

-- the faults about a frame, in the audit's order
abbrev pub faults_about : List Fault → Id → List Fault
faults_about faults id = filter (is_about id) faults

-- What is said of them: something of each fault, in the same order.

-- the numbers of the faults about a frame, where the first has this number
abbrev pub numbers_about : ℕ → List Fault → Id → List ℕ
numbers_about n [] id = []
numbers_about n (fault ∷ faults) id = (if is_about id fault then n ∷ [] else []) ++ numbers_about (n + 1) faults id

-- the things of numbers
abbrev pub option_list : {A : Type 0} → Option A → List A
option_list None = []
option_list (Some x) = x ∷ []

abbrev pub picked : {A : Type 0} → List A → List ℕ → List A
picked things numbers = flat_map (λ n. option_list (slice_get things n)) numbers

-- what is said of the faults about a frame
abbrev pub sentences_about : {A : Type 0} → List Fault → List A → Id → List A
sentences_about faults sentences id = picked sentences (numbers_about 0 faults id)

-- that the entry frame isn't found, if it isn't
abbrev pub entry_faults : List Fault → List Fault
entry_faults faults = filter (λ fault. is_entry_kind fault.kind) faults

-- the audit's line about a fault
abbrev pub item : Fault → List Piece
item fault = element_pieces (codes "li") [] (words_as fault.kind fault)

abbrev pub items : List Fault → List Piece
items faults = flat_map item faults

-- in a list
unfoldable pub listed : List Fault → List Piece
listed faults = around (codes "ul") ((codes "class", codes "faults") ∷ []) (items faults)

-- if there are any
abbrev pub fault_list : List Fault → List Piece
fault_list [] = []
fault_list (fault ∷ faults) = listed (fault ∷ faults)

-- The cell that a frame wrongly writes.

abbrev pub start_or : Option Start → Option Start → Option Start
start_or None after = after
start_or (Some start) after = Some start

-- the first start that faults name; only a touch names one
abbrev pub first_start : List Fault → Option Start
first_start [] = None
first_start (fault ∷ faults) = start_or fault.start (first_start faults)

-- where a terminal is, that was where a start says, after the frame's lead and the bytes before the one that touches
abbrev pub caret_before : Frame → Start → Caret
caret_before f start =
    caret_run (caret_run (record { at = start.at; pending = start.pending }) (lead_codes f.lead)) (take start.offset f.body)

-- the first cell that the byte writes: 12 is 0C, which clears
abbrev pub cell_of : Frame → Start → ℕ
cell_of f start = if get_or f.body start.offset 0 == 12 then 0 else (caret_before f start).at

abbrev pub cell_by : Frame → Option Start → Option ℕ
cell_by f None = None
cell_by f (Some start) = if nat_lt start.at 960 then Some (cell_of f start) else None

-- the cell that gets a red frame in the picture of a frame with these faults
abbrev pub touched_cell : Frame → List Fault → Option ℕ
touched_cell f faults = cell_by f (first_start faults)
