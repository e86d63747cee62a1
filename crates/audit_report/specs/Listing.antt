-- The lines of `list`, in one of its forms. Ids, numbers and keys are printed as in every text.
use Rattle.std.specs.Prelude.{ℕ, List, ◌++◌, Option, Some, None, codes, decimal, ◌≡◌, zero, suc, Bool, true, false, not, [], ◌∷◌, filter, length, slice_get, ◌↔◌, Contains, All, ◌==◌}
use Rattle.page_ids.specs.declared.key.Key.{Key}
use Rattle.page_ids.specs.Keys.{keys_text}
use Rattle.frame_records.specs.declared.frame.Frame.{Frame}
use Rattle.audit_report.specs.Lines.{ended_line, with_id, entry_fault, entry_text}
use Rattle.audit_report.specs.ReportLines.{script_text}
use Rattle.std.specs.List.{list_all, list_any}
use Rattle.indexmap.specs.IndexSet.{contains}
use Rattle.page_ids.specs.Ids.{Id, IsLetter, id_eq}
use Rattle.frame_records.specs.declared.base.Sought.{Sought}
use Rattle.frame_records.specs.declared.base.Sought.TheVariants as sought
use Rattle.frame_records.specs.Bases.{BaseView, frame_at}
use Rattle.frame_records.specs.Seek.{entry_of, seek_entry}
use Rattle.finder.specs.declared.found.Discovered.{Discovered}
use Rattle.finder.specs.Finds.{IsFinding, script, FindsReached, IsReached}
use Rattle.audit_report.specs.Views.{ListingView}
use Rattle.audit_report.specs.declared.list_form.ListForm.{ListForm}
use Rattle.audit_report.specs.declared.list_form.ListForm.TheVariants as form_of
use Rattle.audit_report.specs.declared.reached.Reached.{Reached}

-- a number, or other words if there is none
abbrev pub or_none : List ℕ → Option ℕ → List ℕ
or_none none (Some n) = decimal n
or_none none None = none

abbrev pub with_or : List ℕ → List ℕ → Option ℕ → List ℕ
with_or none words number = words ++ or_none none number

-- what a frame costs, and the group to which it is open
abbrev pub price_and_group : Frame → List ℕ
price_and_group f = (codes " PRICE " ++ decimal f.price) ++ with_or (codes "-") (codes " GROUP ") f.group

-- the same two as members of an object
abbrev pub price_and_group_members : Frame → List ℕ
price_and_group_members f = (codes ",\"price\":" ++ decimal f.price) ++ with_or (codes "null") (codes ",\"group\":") f.group

-- the keys that lead to a frame, as the last member of an object
abbrev pub script_member : List Key → List ℕ
script_member keys = codes ",\"script\":\"" ++ keys_text keys ++ codes "\"}"

-- a frame that is reached: its rank, and the keys that lead to it
abbrev pub frame_line : ListForm → Frame → Option ℕ → List Key → List ℕ
frame_line form_of.Line f rank keys =
    ended_line (with_id (codes "FRAME ") f.id ++ with_or (codes "-") (codes " RANK ") rank ++ price_and_group f ++ script_text keys)
frame_line form_of.Json f rank keys =
    ended_line (with_id (codes "{\"frame\":\"") f.id ++ with_or (codes "null") (codes "\",\"reached\":true,\"rank\":") rank ++ price_and_group_members f
    ++ script_member keys)

-- one that isn't
abbrev pub unreached_line : ListForm → Frame → List ℕ
unreached_line form_of.Line f = ended_line (with_id (codes "UNREACHED ") f.id ++ price_and_group f)
unreached_line form_of.Json f =
    ended_line (with_id (codes "{\"frame\":\"") f.id ++ codes "\",\"reached\":false,\"rank\":null" ++ price_and_group_members f ++ codes ",\"script\":null}")

-- an entry frame that isn't shown
abbrev pub lost_entry_line : ListForm → Id → Bool → List ℕ
lost_entry_line form_of.Line id closed = entry_text id closed
lost_entry_line form_of.Json id closed = ended_line (with_id (codes "{\"frame\":\"") id ++ (codes "\",\"fault\":\"" ++ entry_fault closed ++ codes "\"}"))

-- The text of `list`: the frames that are reached, in the order of discovery, and then the others, in the order of the base.

-- a frame is among those that are reached
abbrev pub is_listed : List Discovered → Id → Bool
is_listed found id = list_any (λ d. id_eq d.id id) found

-- the line of a reached frame, by its record; each has one
abbrev pub line_of_record : ListForm → Option ℕ → List Key → Option Frame → List ℕ
line_of_record form rank keys None = []
line_of_record form rank keys (Some f) = frame_line form f rank keys

abbrev pub line_of_found : ListForm → BaseView → List Key → Option Discovered → List ℕ
line_of_found form base keys None = []
line_of_found form base keys (Some d) = line_of_record form d.rank keys (frame_at base d.id)

-- the line of the reached frame at an index
abbrev pub reached_line : ListForm → BaseView → List Discovered → ℕ → List ℕ
reached_line form base found at = line_of_found form base (script found at) (slice_get found at)

-- the lines of the first of them
abbrev pub reached_lines : ListForm → BaseView → List Discovered → ℕ → List ℕ
reached_lines form base found zero = []
reached_lines form base found (suc n) = reached_lines form base found n ++ reached_line form base found n

-- the frames that aren't reached
abbrev pub others : List Discovered → List Frame → List Frame
others found frames = filter (λ f. not (is_listed found f.id)) frames

abbrev pub lines_of_others : ListForm → List Frame → List ℕ
lines_of_others form [] = []
lines_of_others form (f ∷ fs) = unreached_line form f ++ lines_of_others form fs

abbrev pub unreached_lines : ListForm → List Discovered → List Frame → List ℕ
unreached_lines form found frames = lines_of_others form (others found frames)

-- a line for each frame
abbrev pub all_lines : ListForm → BaseView → List Discovered → List ℕ
all_lines form base found = reached_lines form base found (length found) ++ unreached_lines form found base.frames

-- the lines of all frames, by the one list of the reached frames
pub record AreAllLines (caller : List ℕ) (form : ListForm) (base : BaseView) (text : List ℕ) : Type 0 where
  pub found : List Discovered
  pub finding : IsFinding caller base found
  pub lines : text ≡ all_lines form base found

-- the text and whether the entry frame is found: if it isn't, the text is the entry frame's line alone
abbrev pub IsTextBy : Sought → List ℕ → ListForm → BaseView → List ℕ → Bool → Type 0
IsTextBy sought.Missing caller form base text is_found = (text ≡ lost_entry_line form (entry_of base) false) × (is_found ≡ false)
IsTextBy sought.Closed caller form base text is_found = (text ≡ lost_entry_line form (entry_of base) true) × (is_found ≡ false)
IsTextBy (sought.Found price) caller form base text is_found = AreAllLines caller form base text × (is_found ≡ true)

abbrev pub IsListText : List ℕ → ListForm → BaseView → List ℕ → Bool → Type 0
IsListText caller form base text is_found = IsTextBy (seek_entry caller base) caller form base text is_found

abbrev pub IsListing : List ℕ → ListForm → BaseView → ListingView → Type 0
IsListing caller form base listing = IsListText caller form base listing.text listing.entry_is_found

-- the ids of these frames are known
abbrev pub Knows : List Discovered → Reached → Type 0
Knows found reached = (id : Id) → contains id_eq reached.ids id ≡ is_listed found id

-- What the list says of a base.

-- a frame that is listed has its record in the base
abbrev pub HasRecord : BaseView → Discovered → Type 0
HasRecord base d = (f : Frame) × (frame_at base d.id ≡ Some f)

-- the lines FRAME are those of exactly the frames that walks reach, and the lines UNREACHED those of exactly the others
pub record ListsEveryFrame (caller : List ℕ) (base : BaseView) (found : List Discovered) : Type 0 where
  pub records : All (HasRecord base) found
  pub reached : (id : Id) → IsReached caller base id ↔ (is_listed found id ≡ true)
  pub unreached : (f : Frame)
      → Contains (others found base.frames) f ↔ (Contains base.frames f × (IsReached caller base f.id → ⊥))

abbrev pub AllAreListed : Type 0
AllAreListed =
    (caller : List ℕ) (base : BaseView) (found : List Discovered) → FindsReached caller base found
    → ListsEveryFrame caller base found

-- Whatever the form, a frame is one line.

-- a byte that ends no line
abbrev pub is_no_newline : ℕ → Bool
is_no_newline b = not (b == 10)

-- a newline ends it, and none is before
pub record IsOneLine (bytes : List ℕ) : Type 0 where
  pub text : List ℕ
  pub ends : bytes ≡ ended_line text
  pub one : list_all is_no_newline text ≡ true

-- what is printed of a frame, reached or not
pub record AreOneLines (f : Frame) : Type 0 where
  pub reached : (form : ListForm) (rank : Option ℕ) (keys : List Key) → IsOneLine (frame_line form f rank keys)
  pub unreached : (form : ListForm) → IsOneLine (unreached_line form f)

-- the id of a frame ends in a letter
abbrev pub FramesAreLines : Type 0
FramesAreLines = (f : Frame) → IsLetter f.id.letter → AreOneLines f
