-- What a walk does.
use Rattle.std.specs.Prelude.{◌≡◌, ℕ, true, false, List, [], Result, Ok, Err}
use Rattle.page_ids.specs.declared.key.Key.{Key}
use Rattle.page_ids.specs.Keys.{keys_text, AreKeys, IsUnreadableAt}
use Rattle.frame_records.specs.Bases.{BaseView}
use Rattle.session_machine.specs.declared.reply.Reply.{Reply}
use Rattle.session_machine.specs.declared.session.OpenFault.{OpenFault}
use Rattle.session_machine.specs.declared.session.OpenFault.TheVariants.{EntryMissing, EntryClosed, Memory}
use Rattle.frame_records.specs.Seek.{entry_of}
use Rattle.session_machine.specs.Runs.{session_of}
use Rattle.audit_report.specs.declared.run_fault.RunFault.{RunFault}
use Rattle.audit_report.specs.declared.run_fault.RunFault.TheVariants as run
use Rattle.audit_report.specs.Lines.{walk_text, entry_text}
use Rattle.audit_report.specs.declared.status.Status.{Status}
use Rattle.audit_report.specs.declared.status.Status.TheVariants.{Clear, Faulty}
use Rattle.pageaudit.specs.Files.{Device, IsUntouched, IsTextWritten, base_limit, IsReadWithin, IsBaseRun}

-- what a session prints: a line for each reply, or the line of an entry frame that isn't found
abbrev pub session_text : BaseView → Result (List Reply) OpenFault → List ℕ
session_text base (Ok replies) = walk_text replies
session_text base (Err EntryMissing) = entry_text (entry_of base) false
session_text base (Err EntryClosed) = entry_text (entry_of base) true
session_text base (Err Memory) = []

-- clear if the session was opened
abbrev pub session_status : Result (List Reply) OpenFault → Status
session_status (Ok replies) = Clear
session_status (Err fault) = Faulty

-- words that are the text of keys
pub record AreKeysOf (words : List ℕ) (keys : List Key) : Type 0 where
  pub are_keys : AreKeys keys
  pub spelled : words ≡ keys_text keys

-- the text of the caller's session was written, and the answer is its status, or a write fault with the number of bytes written
abbrev pub IsSessionWritten : Device → List ℕ → List Key → BaseView → Result Status RunFault → Type 0
IsSessionWritten out caller keys base answer = IsTextWritten out (session_text base (session_of caller base keys)) (session_status (session_of caller base keys)) answer

-- the keys were read, and then the base
pub record IsKeysRun (base_file out : Device) (caller words : List ℕ) (answer : Result Status RunFault) : Type 0 where
  pub keys : List Key
  pub keys_read : AreKeysOf words keys
  pub run : IsBaseRun base_file (IsUntouched out) (IsSessionWritten out caller keys) answer

-- a run by its answer. After a fault of the keys nothing was read of the base
abbrev pub IsWalkRun : Device → Device → List ℕ → List ℕ → Result Status RunFault → Type 0
IsWalkRun base_file out caller words (Err (run.Keys offset)) = IsUnreadableAt words offset × IsUntouched base_file × IsUntouched out
IsWalkRun base_file out caller words (Err run.Memory) = IsReadWithin base_limit base_file × IsUntouched out
IsWalkRun base_file out caller words answer = IsKeysRun base_file out caller words answer

-- the answer for the words of keys
abbrev pub IsKeysAnswer : List ℕ → Result (List Key) RunFault → Type 0
IsKeysAnswer words (Ok keys) = AreKeysOf words keys
IsKeysAnswer words (Err (run.Keys offset)) = IsUnreadableAt words offset
IsKeysAnswer words (Err run.Memory) = Unit {0}
IsKeysAnswer words (Err _) = ⊥
