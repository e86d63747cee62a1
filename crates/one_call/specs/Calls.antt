-- A call of a folder.
use Rattle.std.specs.Prelude.{ℕ, List, Result, Ok, Err}
use Rattle.std.specs.Io.KnownBytes.{Appends, Consumes}
use Rattle.terminal_codes.specs.Screen.{Screen}
use Rattle.devices.specs.Devices.{Seen}
use Rattle.editions.specs.Folders.{SeenFolder}
use Rattle.one_call.specs.declared.fault.ServeFault.{ServeFault}
use Rattle.one_call.specs.declared.fault.CallFault.{CallFault}
use Rattle.one_call.specs.declared.fault.CallFault.TheVariants.{Refused, Line}
use Rattle.one_call.specs.Lines.{IsSilent, IsLineServed}
use Rattle.one_call.specs.Opened.{AreServed, IsToRefuse}
use Rattle.one_call.specs.Parts.{Parts, heard_in, call_bytes}
use Rattle.one_call.specs.Safety.{IsSafeCall}

-- a call was begun, of a caller of the groups of the first edition
pub record IsCallOf (folder : SeenFolder) (from to old new : Seen) (result : Result (Unit {0}) ServeFault) : Type 0 where
  pub groups : List ℕ
  pub line : IsLineServed groups folder from to old new result

-- what isn't cleared isn't served: then not a byte is read or written
abbrev pub IsCallServed : SeenFolder → Seen → Seen → Seen → Seen → Result (Unit {0}) CallFault → Type 0
IsCallServed folder from to old new (Ok u) = IsCallOf folder from to old new (Ok u)
IsCallServed folder from to old new (Err (Line fault)) = IsCallOf folder from to old new (Err fault)
IsCallServed folder from to old new (Err (Refused number cause)) = IsToRefuse folder number cause × IsSilent from to old new
IsCallServed folder from to old new (Err _) = IsSilent from to old new

-- the headline of a whole call: editions were served that were cleared, each against the one before it; exactly a call's bytes were
-- written; and whatever the caller's terminal was before, it then shows what is promised
pub record IsKeptCall (folder : SeenFolder) (from to old new : Seen) : Type 0 where
  pub groups : List ℕ
  pub parts : Parts
  pub served : AreServed groups folder parts
  pub given : Consumes from.bytes to.bytes (heard_in parts)
  pub written : Appends old.bytes new.bytes (call_bytes groups parts)
  pub safe : (t : Screen) → IsSafeCall groups parts t
