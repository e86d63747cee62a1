-- The result of a session of a list of keys. The caller is the list of the groups to which the caller belongs.
use Rattle.std.specs.Prelude.{◌≡◌, ℕ, List, [], ◌∷◌, Result, Ok, Err, ◌≤◌, ◌<◌, ◌++◌, Some}
use Rattle.page_ids.specs.declared.key.Key.{Key}
use Rattle.frame_records.specs.declared.base.Sought.TheVariants.{Found}
use Rattle.frame_records.specs.Bases.{BaseView, frame_at}
use Rattle.session_machine.specs.declared.reply.Reply.{Reply}
use Rattle.session_machine.specs.declared.session.OpenFault.{OpenFault}
use Rattle.session_machine.specs.Sessions.{SessionState, present, opening, opening_reply, IsOpenFault}
use Rattle.frame_records.specs.Seek.{seek_entry, entry_of}
use Rattle.session_machine.specs.Runs.{state_after, replies_to}
use Rattle.fault_scripts.specs.declared.replaying.Replayed.{Replayed}
use Rattle.page_ids.specs.Ids.{Id}
use Rattle.frame_records.specs.declared.frame.Frame.{Frame}
use Rattle.frame_records.specs.declared.base.Sought.{Sought}
use Rattle.frame_records.specs.declared.base.Sought.TheVariants as sought
use Rattle.abstract_paint.specs.declared.start.Start.{Start}
use Rattle.abstract_paint.specs.Start.{IsLeastStart}
use Rattle.session_machine.specs.declared.reply.Reply.TheVariants.{Shown, Missing, Closed}
use Rattle.checker.specs.declared.policy.Policy.{Policy}
use Rattle.finder.specs.Finds.{Walk}
use Rattle.base_faults.specs.declared.fault.Fault.{Fault}
use Rattle.base_faults.specs.declared.fault.FaultKind.{FaultKind}
use Rattle.base_faults.specs.declared.fault.FaultKind.TheVariants as kind

-- the last of some replies, which follow another
abbrev pub final_reply : Reply → List Reply → Reply
final_reply reply [] = reply
final_reply reply (next ∷ replies) = final_reply next replies

-- the last reply of a session whose entry frame has the price; without keys the opening one
abbrev pub last_reply : List ℕ → BaseView → List Key → ℕ → Reply
last_reply caller base keys price = final_reply (opening_reply base price) (replies_to caller base (opening base) keys)

-- the state in which it ends
abbrev pub last_state : List ℕ → BaseView → List Key → SessionState
last_state caller base keys = state_after caller base (opening base) keys

-- the last reply and the present frame
abbrev pub replayed : List ℕ → BaseView → List Key → ℕ → Replayed
replayed caller base keys price = record { last = last_reply caller base keys price; at = present (last_state caller base keys) }

-- the session's end, or why it isn't opened
abbrev pub IsReplayed : List ℕ → BaseView → List Key → Result Replayed OpenFault → Type 0
IsReplayed caller base keys (Ok end) = (price : ℕ) × (seek_entry caller base ≡ Found price) × (end ≡ replayed caller base keys price)
IsReplayed caller base keys (Err fault) = IsOpenFault caller base fault

-- What bears a fault out: the result of its script, run as a session of a caller of exactly the policy's groups.

-- no session is opened: seeking the entry frame results in this
pub record ShowsEntry (caller : List ℕ) (base : BaseView) (fault : Fault) (what : Sought) : Type 0 where
  pub frame : fault.frame ≡ entry_of base
  pub script : fault.script ≡ []
  pub sought : seek_entry caller base ≡ what

-- the session of the script is opened, and ends at the frame
pub record EndsAtFrame (caller : List ℕ) (base : BaseView) (fault : Fault) : Type 0 where
  pub price : ℕ
  pub opened : seek_entry caller base ≡ sought.Found price
  pub at : present (last_state caller base fault.script) ≡ Some fault.frame

-- its last reply shows the frame at its price, which is above the policy's ceiling
pub record ShowsPrice (base : BaseView) (policy : Policy) (fault : Fault) : Type 0 where
  pub price : ℕ
  pub opened : seek_entry policy.groups base ≡ sought.Found price
  pub last : last_reply policy.groups base fault.script price ≡ Shown fault.frame fault.price
  pub above : policy.ceiling < fault.price

-- it ends at the frame, which from the start writes a service position at the first offset at which any does; no lesser
-- start does
pub record ShowsTouch (caller : List ℕ) (base : BaseView) (fault : Fault) : Type 0 where
  pub there : EndsAtFrame caller base fault
  pub frame : Frame
  pub start : Start
  pub of_frame : frame_at base fault.frame ≡ Some frame
  pub is_start : fault.start ≡ Some start
  pub least : IsLeastStart frame.lead frame.body start

-- the script ends with the key, its last reply names the frame sought, and the caller is still at the frame
pub record ShowsKey (caller : List ℕ) (base : BaseView) (fault : Fault) (reply : Id → Reply) : Type 0 where
  pub there : EndsAtFrame caller base fault
  pub before : List Key
  pub key : Key
  pub to : Id
  pub is_key : fault.key ≡ Some key
  pub is_sought : fault.sought ≡ Some to
  pub ends : fault.script ≡ before ++ key ∷ []
  pub last : last_reply caller base fault.script there.price ≡ reply to

-- it ends at the frame, from which no walk of so few steps leads to the entry frame
pub record ShowsNoReturn (base : BaseView) (policy : Policy) (fault : Fault) : Type 0 where
  pub there : EndsAtFrame policy.groups base fault
  pub far : (n : ℕ) → n ≤ policy.keyings → Walk policy.groups base fault.frame (entry_of base) n → ⊥

-- each kind in turn
abbrev pub ShowsAs : FaultKind → BaseView → Policy → Fault → Type 0
ShowsAs kind.EntryMissing base policy fault = ShowsEntry policy.groups base fault sought.Missing
ShowsAs kind.EntryClosed base policy fault = ShowsEntry policy.groups base fault sought.Closed
ShowsAs kind.Price base policy fault = ShowsPrice base policy fault
ShowsAs kind.Touches base policy fault = ShowsTouch policy.groups base fault
ShowsAs kind.Missing base policy fault = ShowsKey policy.groups base fault Missing
ShowsAs kind.Closed base policy fault = ShowsKey policy.groups base fault Closed
ShowsAs kind.NoReturn base policy fault = ShowsNoReturn base policy fault

abbrev pub Shows : BaseView → Policy → Fault → Type 0
Shows base policy fault = ShowsAs fault.kind base policy fault
