-- When a base is safe for a caller, whole: sessions, and what they show.
use Rattle.std.specs.Prelude.{◌≡◌, ℕ, true, List, Some}
use Rattle.std.specs.List.{AllByRecursion}
use Rattle.page_ids.specs.Ids.{Id}
use Rattle.page_ids.specs.declared.key.Key.{Key}
use Rattle.frame_records.specs.declared.frame.Frame.{Frame}
use Rattle.frame_records.specs.Bases.{BaseView, frame_at}
use Rattle.terminal_codes.specs.Bodies.{IsClean}
use Rattle.session_machine.specs.declared.reply.Reply.{Reply}
use Rattle.session_machine.specs.declared.reply.Reply.TheVariants.{Shown, Again, NotOffered, Missing, Closed, Gone}
use Rattle.session_machine.specs.Sessions.{SessionState, At, Left, opening}
use Rattle.frame_records.specs.Seek.{entry_of}
use Rattle.session_machine.specs.Runs.{replies_to, SafeSession}
use Rattle.cert_table.specs.declared.row.Row.{Row}
use Rattle.checker.specs.Good.{is_row_of}

-- the base has the frame, and from no state of the terminal its body writes what counts as written in a service row
pub record IsCleanAt (base : BaseView) (id : Id) : Type 0 where
  pub frame : Frame
  pub found : frame_at base id ≡ Some frame
  pub clean : IsClean frame.lead frame.body

-- a frame that is shown, or shown again, is clean
abbrev pub IsCleanReply : BaseView → Reply → Type 0
IsCleanReply base (Shown id price) = IsCleanAt base id
IsCleanReply base (Again id) = IsCleanAt base id
IsCleanReply base NotOffered = Unit {0}
IsCleanReply base (Missing id) = Unit {0}
IsCleanReply base (Closed id) = Unit {0}
IsCleanReply base (Gone page) = Unit {0}

-- after every list of keys from the entry page: no reply was Missing or Closed, each frame shown costs at most the ceiling
-- and is clean, and unless the caller left, at most this many keyings regain the entry page
pub record Safe (caller : List ℕ) (base : BaseView) (ceiling keyings : ℕ) : Type 0 where
  pub session : SafeSession caller base ceiling keyings
  pub entry_clean : IsCleanAt base (entry_of base)
  pub clean : (keys : List Key) → AllByRecursion (IsCleanReply base) (replies_to caller base (opening base) keys)

-- the present frame and each remembered one have rows
abbrev pub HasRows : List Row → SessionState → Type 0
HasRows rows (At id remembered) = (is_row_of rows id ≡ true) × AllByRecursion (λ r. is_row_of rows r ≡ true) remembered
HasRows rows (Left page) = Unit {0}
