-- Which frames are sent for a screen. A caller is the list of the closed user groups to which the caller belongs.
use Rattle.std.specs.Prelude.{◌≡◌, ℕ, ◌-◌, List, [], ◌∷◌, ◌++◌, Option, Some, None, Result, Ok, Err, length, map, slice_get, position}
use Rattle.page_ids.specs.Ids.{Id, id_eq}
use Rattle.page_ids.specs.declared.key.Key.{Key}
use Rattle.frame_records.specs.declared.base.Sought.{Sought}
use Rattle.frame_records.specs.declared.base.Sought.TheVariants as sought
use Rattle.frame_records.specs.Bases.{BaseView}
use Rattle.frame_records.specs.Seek.{entry_of, seek_entry}
use Rattle.session_machine.specs.declared.reply.Reply.{Reply}
use Rattle.session_machine.specs.declared.reply.Reply.TheVariants.{Shown, Again, NotOffered, Missing, Closed, Gone}
use Rattle.session_machine.specs.Sessions.{opening, left_for}
use Rattle.session_machine.specs.Runs.{state_after, replies_to}
use Rattle.finder.specs.declared.found.Discovered.{Discovered}
use Rattle.finder.specs.Finds.{IsFinding, script}
use Rattle.frame_screens.specs.declared.keyed.NoScreen.{NoScreen}
use Rattle.frame_screens.specs.declared.keyed.NoScreen.TheVariants as none

-- the ids of a base's frames, ascending
abbrev pub ids_of : BaseView → List Id
ids_of base = map (λ f. f.id) base.frames

-- the last of frames
abbrev pub last_frame : List Id → Option Id
last_frame ids = slice_get ids (length ids - 1)

-- A session's frames.

-- the frame that a reply sends: SHOWN and AGAIN send one
abbrev pub sent_by : Reply → List Id
sent_by (Shown id price) = id ∷ []
sent_by (Again id) = id ∷ []
sent_by NotOffered = []
sent_by (Missing id) = []
sent_by (Closed id) = []
sent_by (Gone page) = []

-- those of replies, in order
abbrev pub sent_in : List Reply → List Id
sent_in [] = []
sent_in (reply ∷ replies) = sent_by reply ++ sent_in replies

-- the frames that are sent to a caller who presses these keys: the entry frame, and then those of the replies
abbrev pub frames_sent : List ℕ → BaseView → List Key → List Id
frames_sent caller base keys = entry_of base ∷ sent_in (replies_to caller base (opening base) keys)

-- no screen if the caller left for a page
abbrev pub unless_left : List Id → Option ℕ → Result (List Id) NoScreen
unless_left ids None = Ok ids
unless_left ids (Some page) = Err (none.Gone page)

-- nor if the entry frame isn't found
abbrev pub if_entry_found : Result (List Id) NoScreen → Sought → Result (List Id) NoScreen
if_entry_found after (sought.Found price) = after
if_entry_found after sought.Closed = Err none.EntryClosed
if_entry_found after sought.Missing = Err none.EntryMissing

-- the frames whose screen is shown after a session's keys, or why there is none
abbrev pub keyed_frames : List ℕ → BaseView → List Key → Result (List Id) NoScreen
keyed_frames caller base keys =
    if_entry_found (unless_left (frames_sent caller base keys) (left_for (state_after caller base (opening base) keys))) (seek_entry caller base)

-- the same, unless memory is refused
abbrev pub IsKeyed : List ℕ → BaseView → List Key → Result (List Id) NoScreen → Type 0
IsKeyed caller base keys (Ok ids) = keyed_frames caller base keys ≡ Ok ids
IsKeyed caller base keys (Err none.Memory) = Unit {0}
IsKeyed caller base keys (Err fault) = keyed_frames caller base keys ≡ Err fault

-- The way to a frame.

-- where a frame is in the list of those that are reached
abbrev pub place_of : List Discovered → Id → Option ℕ
place_of found id = position (λ d. id_eq d.id id) found

-- the frames that are sent on the keys that lead to a frame; one that no key reaches is sent alone
abbrev pub way_by : List ℕ → BaseView → List Discovered → Id → Option ℕ → List Id
way_by caller base found id (Some place) = frames_sent caller base (script found place)
way_by caller base found id None = id ∷ []

-- the way, by the one list of the reached frames
pub record IsWay (caller : List ℕ) (base : BaseView) (id : Id) (ids : List Id) : Type 0 where
  pub found : List Discovered
  pub finding : IsFinding caller base found
  pub is : ids ≡ way_by caller base found id (place_of found id)
