-- The result of seeking frames, and what is noted of them.
use Rattle.std.specs.Prelude.{◌≡◌, ◌<◌, ℕ, Bool, List, Option, Some, None, All, option_map, slice_get, if◌then◌else◌}
use Rattle.page_ids.specs.Ids.{Id}
use Rattle.frame_records.specs.declared.frame.Frame.{Frame}
use Rattle.frame_records.specs.Bases.{frame_among}
use Rattle.frame_records.specs.Seek.{is_open}
use Rattle.finder.specs.declared.notes.Note.{Note}
use Rattle.finder.specs.declared.target.WayTarget.{WayTarget}
use Rattle.finder.specs.Survey.{id_at}
use Rattle.finder.specs.declared.target.WayTarget.TheVariants.{Found, Closed}

-- a node has the frame of an id, which is open to the caller or isn't
pub record IsSeen (caller : List ℕ) (frames : List Frame) (id : Id) (node : ℕ) (admitted : Bool) : Type 0 where
  pub placed : id_at frames node ≡ Some id
  pub admits : option_map (is_open caller) (slice_get frames node) ≡ Some admitted

-- the result of seeking it
abbrev pub target_at : ℕ → Bool → WayTarget
target_at node admitted = if admitted then Found node else Closed

-- the result of seeking an id; none if no frame has it
abbrev pub IsSought : List ℕ → List Frame → Id → Option WayTarget → Type 0
IsSought caller frames id None = frame_among frames id ≡ None
IsSought caller frames id (Some target) = (node : ℕ) × (admitted : Bool) × IsSeen caller frames id node admitted × (target ≡ target_at node admitted)

-- a note of the frame of an id
pub record IsOf (note : Note) (id : Id) : Type 0 where
  pub page : note.page ≡ id.page
  pub letter : note.letter ≡ id.letter
  pub named : 0 < note.letter

-- what is noted is so
abbrev pub IsNote : List ℕ → List Frame → Note → Type 0
IsNote caller frames note = (id : Id) → IsOf note id → IsSeen caller frames id note.node note.is_open

pub record AreNotes (caller : List ℕ) (frames : List Frame) (notes : List Note) : Type 0 where
  pub each : All (IsNote caller frames) notes
