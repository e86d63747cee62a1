-- A call on a line.
use Rattle.std.specs.Prelude.{◌≡◌, ◌⊎◌, ℕ, true, false, List, take, Result, Ok, Err}
use Rattle.std.specs.Io.KnownBytes.{Appends, Consumes, IsAtEnd}
use Rattle.devices.specs.Devices.{Seen}
use Rattle.editions.specs.Folders.{SeenFolder}
use Rattle.one_call.specs.declared.fault.ServeFault.{ServeFault}
use Rattle.one_call.specs.declared.fault.ServeFault.TheVariants.{NotOpened, Read, Write, Memory}
use Rattle.one_call.specs.Opened.{AreServed}
use Rattle.one_call.specs.Parts.{Parts, heard_in, call_over, call_bytes, AreHeard}

-- what was read and written, up to now
pub record IsSoFar (groups : List ℕ) (from to old new : Seen) (parts : Parts) : Type 0 where
  pub given : Consumes from.bytes to.bytes (heard_in parts)
  pub heard : AreHeard groups parts
  pub written : Appends old.bytes new.bytes (call_bytes groups parts)

-- a whole call: it ended by `*90#` or Gone, or the line did; exactly the answers to the bytes that were heard were written
pub record IsWholeCall (groups : List ℕ) (folder : SeenFolder) (from to old new : Seen) : Type 0 where
  pub parts : Parts
  pub served : AreServed groups folder parts
  pub so_far : IsSoFar groups from to old new parts
  pub end : ((call_over groups parts).over ≡ true) ⊎ IsAtEnd to.bytes
  pub unbroken : new.failed ≡ false

-- a call that couldn't be read on: all was written for what was heard
pub record IsUnreadCall (groups : List ℕ) (folder : SeenFolder) (from to old new : Seen) : Type 0 where
  pub parts : Parts
  pub served : AreServed groups folder parts
  pub so_far : IsSoFar groups from to old new parts
  pub unbroken : new.failed ≡ false

-- a call that couldn't be written on: a beginning of it was written
pub record IsCutCall (groups : List ℕ) (folder : SeenFolder) (from to old new : Seen) : Type 0 where
  pub parts : Parts
  pub served : AreServed groups folder parts
  pub given : Consumes from.bytes to.bytes (heard_in parts)
  pub heard : AreHeard groups parts
  pub n : ℕ
  pub written : Appends old.bytes new.bytes (take n (call_bytes groups parts))

-- nothing was read, and nothing written
pub record IsSilent (from to old new : Seen) : Type 0 where
  pub source : to ≡ from
  pub sink : new ≡ old

-- a call that was begun. The entry frame of what is cleared is always found
abbrev pub IsLineServed : List ℕ → SeenFolder → Seen → Seen → Seen → Seen → Result (Unit {0}) ServeFault → Type 0
IsLineServed groups folder from to old new (Ok _) = IsWholeCall groups folder from to old new
IsLineServed groups folder from to old new (Err NotOpened) = ⊥
IsLineServed groups folder from to old new (Err Read) = IsUnreadCall groups folder from to old new
IsLineServed groups folder from to old new (Err Write) = (new.failed ≡ true) × IsCutCall groups folder from to old new
IsLineServed groups folder from to old new (Err Memory) = IsCutCall groups folder from to old new
