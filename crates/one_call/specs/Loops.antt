-- Facts that hold between the turns of loops, and what functions that aren't exported say. No promise rests on them.
use Rattle.std.specs.Prelude.{◌≡◌, ℕ, Bool, false, true, List, [], take, Result, Ok, Err}
use Rattle.std.specs.Io.KnownBytes.{Appends}
use Rattle.frame_records.specs.Bases.{BaseView}
use Rattle.frame_records.specs.Seek.{seek_entry}
use Rattle.frame_records.specs.declared.base.Sought.{Sought}
use Rattle.frame_records.specs.declared.base.Sought.TheVariants as sought
use Rattle.devices.specs.Devices.{Seen}
use Rattle.line_keys.specs.declared.heard.Heard.{Heard}
use Rattle.line_keys.specs.declared.heard.Heard.TheVariants.{Pressed}
use Rattle.served_bytes.specs.Sent.{sent_bytes}
use Rattle.one_call.specs.declared.fault.ServeFault.{ServeFault}
use Rattle.one_call.specs.declared.fault.ServeFault.TheVariants.{NotOpened, Read, Write, Memory}
use Rattle.one_call.specs.Turns.{CallView, begun_call, first_bytes, turn}
use Rattle.one_call.specs.Opened.{IsToRefuse, NamesCurrent}
use Rattle.checker.specs.declared.verdict.Verdict.TheVariants as verdicts
use Rattle.checker.specs.Verdict.{verdict}
use Rattle.editions.specs.Folders.{SeenFolder}
use Rattle.edition_checks.specs.declared.served.Served.{Served}
use Rattle.edition_checks.specs.Served.{IfHeld}
use Rattle.edition_checks.specs.NextEditions.{IsFit, IsEditionReached}
use Rattle.one_call.specs.declared.fault.CallFault.{CallFault}
use Rattle.one_call.specs.declared.fault.CallFault.TheVariants as faults

-- a text was written, and the sink hasn't failed
pub record IsWritten (old new : Seen) (text : List ℕ) : Type 0 where
  pub taken : Appends old.bytes new.bytes text
  pub unbroken : new.failed ≡ false

-- a beginning of it was
pub record IsBegunText (old new : Seen) (text : List ℕ) : Type 0 where
  pub n : ℕ
  pub taken : Appends old.bytes new.bytes (take n text)

-- a text was written, or not to its end
abbrev pub IsCutBy : Seen → Seen → List ℕ → ServeFault → Type 0
IsCutBy old new text Write = (new.failed ≡ true) × IsBegunText old new text
IsCutBy old new text Memory = new ≡ old
IsCutBy old new text _ = ⊥

-- the entry frame isn't found
abbrev pub IsEntryRefused : Sought → Type 0
IsEntryRefused (sought.Found price) = ⊥
IsEntryRefused sought.Closed = Unit {0}
IsEntryRefused sought.Missing = Unit {0}

-- why a call isn't begun, before anything is written
abbrev pub IsBeginFault : List ℕ → BaseView → ServeFault → Type 0
IsBeginFault groups base NotOpened = IsEntryRefused (seek_entry groups base)
IsBeginFault groups base Read = ⊥
IsBeginFault groups base Write = ⊥
IsBeginFault groups base Memory = Unit {0}

-- the first bytes were written
abbrev pub IsBegun : List ℕ → BaseView → Seen → Seen → Result CallView ServeFault → Type 0
IsBegun groups base old new (Ok c) = (c ≡ begun_call groups base) × IsWritten old new (first_bytes base)
IsBegun groups base old new (Err NotOpened) = IsEntryRefused (seek_entry groups base) × (new ≡ old)
IsBegun groups base old new (Err Read) = ⊥
IsBegun groups base old new (Err Write) = IsCutBy old new (first_bytes base) Write
IsBegun groups base old new (Err Memory) = IsCutBy old new (first_bytes base) Memory

-- a byte was heard, and what it asks for was written
abbrev pub IsByteAnswered : BaseView → CallView → ℕ → Seen → Seen → CallView → Result (Unit {0}) ServeFault → Type 0
IsByteAnswered base from byte old new to (Ok _) = (to ≡ (turn base from byte).0) × IsWritten old new (sent_bytes from.caret (turn base from byte).1)
IsByteAnswered base from byte old new to (Err fault) = IsCutBy old new (sent_bytes from.caret (turn base from byte).1) fault

-- whether a key was heard
abbrev pub ends_key : Heard → Bool
ends_key (Pressed key) = true
ends_key _ = false

-- The edition.

-- another edition was taken, or none was; none if the one that is served is the current one, and nobody else changes the folder
pub record IsRenewed (folder : SeenFolder) (old new : Served) : Type 0 where
  pub reached : IsEditionReached folder old new
  pub alone : IfHeld folder (λ f. NamesCurrent old.number f → reached.editions ≡ [])

-- what the check of an edition that was read says of it
abbrev pub IsEditionJudged : Served → Result Served CallFault → Type 0
IsEditionJudged s (Ok t) = (t ≡ s) × IsFit s
IsEditionJudged s (Err (faults.Refused number cause)) = (number ≡ s.number) × (verdict s.base s.policy s.cert ≡ verdicts.Refused cause)
IsEditionJudged s (Err _) = ⊥

-- a fault of what is read, before anything is checked
abbrev pub IsBeforeCheck : CallFault → Type 0
IsBeforeCheck (faults.Refused number cause) = ⊥
IsBeforeCheck (faults.Line fault) = ⊥
IsBeforeCheck _ = Unit {0}

-- why no call is begun
abbrev pub IsOpenRefused : SeenFolder → CallFault → Type 0
IsOpenRefused folder (faults.Refused number cause) = IsToRefuse folder number cause
IsOpenRefused folder (faults.Line fault) = ⊥
IsOpenRefused folder _ = Unit {0}
