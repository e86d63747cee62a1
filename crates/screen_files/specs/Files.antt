-- The frames that a file gives.
use Rattle.std.specs.Prelude.{◌≡◌, ℕ, Bool, not, List, [], ◌∷◌, Option, Some, None, Result, Ok, Err, ◌==◌, ◌&&◌, ◌||◌, length, map, nat_lt, take, if◌then◌else◌}
use Rattle.std.specs.List.{flat_map, list_any}
use Rattle.std.specs.Option.{is_some, ok_or}
use Rattle.page_ids.specs.Ids.{Id}
use Rattle.screen_files.specs.declared.filed.Filed.{Filed}
use Rattle.screen_files.specs.declared.filed.ScreenPlace.{ScreenPlace}
use Rattle.screen_files.specs.declared.filed.ScreenPlace.TheVariants.{Whole, Byte, Line}
use Rattle.screen_forms.specs.Addresses.{linked_screens, address_at}
use Rattle.screen_forms.specs.Sheets.{is_sheet, sheet_screens}
use Rattle.screen_forms.specs.declared.text_screens.TextScreen.{TextScreen}
use Rattle.screen_forms.specs.declared.text_screens.FaultyLine.{FaultyLine}
use Rattle.screen_files.specs.declared.capture.Shot.{Shot}
use Rattle.screen_files.specs.declared.capture.TheConstants.{MOST_SHOTS}
use Rattle.screen_files.specs.declared.file.FileKind.{FileKind}
use Rattle.screen_files.specs.declared.file.FileKind.TheVariants.{Cells, Stream}
use Rattle.screen_files.specs.declared.file.ScreenFault.{ScreenFault}
use Rattle.screen_files.specs.declared.file.ScreenFault.TheVariants.{Text, Empty, TooLong, Size, NoId, NoIdAt, TooManyScreens}
use Rattle.screen_files.specs.declared.file.TheConstants.{MOST_SCREEN}
use Rattle.screen_files.specs.declared.file.FramesFault.{FramesFault}
use Rattle.screen_files.specs.declared.file.FramesFault.TheVariants as frames
use Rattle.screen_files.specs.declared.file.FileFrames.{FileFrames}
use Rattle.screen_files.specs.declared.frame.ScreenFrame.{ScreenFrame}
use Rattle.screen_files.specs.declared.head.Head.{Head}
use Rattle.screen_files.specs.Settling.{IsSettled}
use Rattle.screen_files.specs.Captures.{capture_screens}
use Rattle.screen_files.specs.Codes.{begins_ep1, saved_codes}
use Rattle.screen_files.specs.Heads.{name_id, or_id, screen_head}

-- The frame of a screen.

abbrev pub frame_by : Option Id → Option ℕ → List ℕ → Result ScreenFrame ScreenFault
frame_by None price screen = Err NoId
frame_by (Some id) price screen = Ok (record { id = id; price = price; codes = screen })

-- the id is the one in the name of the file, else the one that row 0 shows
abbrev pub headed : List ℕ → Head → List ℕ → Result ScreenFrame ScreenFault
headed path head screen = frame_by (or_id (name_id path) head.id) head.price screen

abbrev pub named_frame : List ℕ → List ℕ → Result ScreenFrame ScreenFault
named_frame path screen = headed path (screen_head screen) screen

-- A saved screen.

-- why bytes are no saved screen
abbrev pub no_screen : ℕ → ScreenFault
no_screen size = if size == 0 then Empty else Size size

abbrev pub placed_if : List ℕ → Result (List ℕ) ScreenFault → Result ScreenFrame ScreenFault
placed_if path (Err fault) = Err fault
placed_if path (Ok screen) = named_frame path screen

-- the frame of a saved screen, or why it gives none
abbrev pub saved_frame : List ℕ → List ℕ → Result ScreenFrame ScreenFault
saved_frame path bytes = placed_if path (ok_or (saved_codes bytes) (no_screen (length bytes)))

-- The frames of a file, and the offsets of those of its screens that are left out.

pub record ScreenList : Type 0 where
  pub filed : List Filed
  pub unnamed : List ℕ

abbrev pub filed_at : ℕ → ScreenPlace → ScreenFrame → Filed
filed_at file place frame = record { origin = record { file = file; place = place }; frame = frame }

abbrev pub found_one : ℕ → ScreenPlace → List ℕ → Result ScreenFrame ScreenFault → Result ScreenList ScreenFault
found_one file place unnamed (Err fault) = Err fault
found_one file place unnamed (Ok frame) = Ok (record { filed = filed_at file place frame ∷ []; unnamed = unnamed })

-- A capture.

abbrev pub shows_id : Shot → Bool
shows_id s = is_some (screen_head s.codes).id

-- the frame of a screen by its row 0
abbrev pub filed_by : ℕ → Shot → Option Id → Option ℕ → List Filed
filed_by file s None price = []
filed_by file s (Some id) price =
    filed_at file (Byte s.byte) (record { id = id; price = price; codes = s.codes }) ∷ []

abbrev pub filed_shot : ℕ → Shot → List Filed
filed_shot file s = filed_by file s (screen_head s.codes).id (screen_head s.codes).price

abbrev pub unnamed_shot : Shot → List ℕ
unnamed_shot s = if shows_id s then [] else s.byte ∷ []

-- the frames of several screens
abbrev pub found_shots : ℕ → List Shot → ScreenList
found_shots file shots = record { filed = flat_map (filed_shot file) shots; unnamed = flat_map unnamed_shot shots }

-- the last of these screens
abbrev pub last_from : Shot → List Shot → Shot
last_from s [] = s
last_from s (r ∷ rs) = last_from r rs

-- the frame of the last screen alone; this many come before it
abbrev pub found_last : List ℕ → ℕ → List Shot → Result ScreenList ScreenFault
found_last path file [] = Err NoId
found_last path file (s ∷ ss) =
    found_one file (Byte (last_from s ss).byte) (map (λ (r : Shot). r.byte) (take (length ss) (s ∷ ss))) (named_frame path (last_from s ss).codes)

-- whether the file's name counts: there is one screen, or none shows an id
abbrev pub is_by_name : List Shot → Bool
is_by_name shots = length shots == 1 || not (list_any shows_id shots)

abbrev pub found_screens : List ℕ → ℕ → List Shot → Result ScreenList ScreenFault
found_screens path file shots = if is_by_name shots then found_last path file shots else Ok (found_shots file shots)

abbrev pub found_within : List ℕ → ℕ → List Shot → Result ScreenList ScreenFault
found_within path file shots =
    if nat_lt MOST_SHOTS (length shots) then Err TooManyScreens else found_screens path file shots

abbrev pub found_capture : List ℕ → ℕ → List ℕ → Result ScreenList ScreenFault
found_capture path file bytes = if length bytes == 0 then Err Empty else found_within path file (capture_screens bytes)

-- A text with screens.

-- the id is the word beside an address, else the one in the name of a file of one, else that of row 0, else the page number
abbrev pub text_screen_id : Option Id → TextScreen → Option Id
text_screen_id name s = or_id s.beside (or_id name (or_id (screen_head s.codes).id s.number))

abbrev pub filed_text_by : ℕ → TextScreen → Option Id → List Filed
filed_text_by file s None = []
filed_text_by file s (Some id) =
    filed_at file (Line s.line) (record { id = id; price = (screen_head s.codes).price; codes = s.codes }) ∷ []

abbrev pub filed_text : ℕ → Option Id → TextScreen → List Filed
filed_text file name s = filed_text_by file s (text_screen_id name s)

-- the line of the first without an id
unfoldable pub nameless_line : Option Id → List TextScreen → Option ℕ
nameless_line name [] = None
nameless_line name (s ∷ ss) = if is_some (text_screen_id name s) then nameless_line name ss else Some s.line

abbrev pub named_texts : ℕ → Option Id → List TextScreen → Option ℕ → Result ScreenList ScreenFault
named_texts file name screens (Some line) = Err (NoIdAt line)
named_texts file name screens None = Ok (record { filed = flat_map (filed_text file name) screens; unnamed = [] })

-- the name of a file counts if it has one screen
abbrev pub name_of_one : List ℕ → List TextScreen → Option Id
name_of_one path screens = if length screens == 1 then name_id path else None

abbrev pub found_text_screens : List ℕ → ℕ → List TextScreen → Result ScreenList ScreenFault
found_text_screens path file screens =
    named_texts file (name_of_one path screens) screens (nameless_line (name_of_one path screens) screens)

abbrev pub found_texts : List ℕ → ℕ → Result (List TextScreen) FaultyLine → Result ScreenList ScreenFault
found_texts path file (Err fault) = Err (Text fault)
found_texts path file (Ok screens) = found_text_screens path file screens

-- A file.

-- it has an address, and isn't EP1 of another size
abbrev pub is_link_text : List ℕ → Bool
is_link_text bytes = is_some (address_at bytes) && not (begins_ep1 bytes)

-- a screen of the right size, else addresses
abbrev pub found_sized : List ℕ → ℕ → List ℕ → Result ScreenList ScreenFault
found_sized path file bytes =
    if not (is_some (saved_codes bytes)) && is_link_text bytes
    then found_texts path file (linked_screens bytes)
    else found_one file Whole [] (saved_frame path bytes)

-- TTI before all other forms
abbrev pub found_saved : List ℕ → ℕ → List ℕ → Result ScreenList ScreenFault
found_saved path file bytes =
    if is_sheet bytes then found_texts path file (sheet_screens bytes) else found_sized path file bytes

abbrev pub found_of : FileKind → List ℕ → ℕ → List ℕ → Result ScreenList ScreenFault
found_of Cells path file bytes = found_saved path file bytes
found_of Stream path file bytes = found_capture path file bytes

-- what a file of these bytes gives
abbrev pub found_in : FileKind → List ℕ → ℕ → List ℕ → Result ScreenList ScreenFault
found_in kind path file bytes = if nat_lt MOST_SCREEN (length bytes) then Err TooLong else found_of kind path file bytes

-- The frames, one of each id.

pub record AreTheFileFrames (found : Result ScreenList ScreenFault) (answer : FileFrames) : Type 0 where
  pub filed : List Filed
  pub are : found ≡ Ok (record { filed = filed; unnamed = answer.unnamed.items })
  pub settled : IsSettled filed answer.frames

abbrev pub AreFileFrames : Result ScreenList ScreenFault → Result FileFrames FramesFault → Type 0
AreFileFrames found (Ok answer) = AreTheFileFrames found answer
AreFileFrames found (Err (frames.Screen fault)) = found ≡ Err fault
AreFileFrames found (Err frames.Memory) = Unit {0}
