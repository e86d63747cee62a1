-- What a run of import does.
use Rattle.std.specs.Prelude.{◌≡◌, ◌<◌, ◌+◌, ◌++◌, ℕ, Bool, List, Option, Result, Ok, Err, length}
use Rattle.std.specs.Io.KnownBytes.{IsAtEnd}
use Rattle.devices.specs.Devices.{BrokeWithin}
use Rattle.frame_records.specs.declared.limits.TheConstants.{MOST_LISTED}
use Rattle.audit_report.specs.declared.run_fault.RunFault.{RunFault}
use Rattle.audit_report.specs.declared.run_fault.RunFault.TheVariants as run
use Rattle.screen_files.specs.declared.filed.Filed.{Filed}
use Rattle.screen_files.specs.declared.file.FileFrames.{FileFrames}
use Rattle.screen_files.specs.declared.file.FileKind.{FileKind}
use Rattle.screen_files.specs.declared.file.FramesFault.{FramesFault}
use Rattle.screen_files.specs.declared.file.FramesFault.TheVariants as frames
use Rattle.screen_files.specs.declared.file.TheConstants.{MOST_SCREEN}
use Rattle.screen_files.specs.Files.{AreFileFrames, found_in}
use Rattle.screen_files.specs.Album.{IsBaseText, IsNoBaseText}
use Rattle.screen_files.specs.declared.album.BaseTextFault.TheVariants.{TooLong as BaseTooLong}
use Rattle.pageaudit.specs.declared.import_run.ImportFault.{ImportFault}
use Rattle.pageaudit.specs.declared.import_run.ImportFault.TheVariants.{Screen, TooMany, Broken, Memory}
use Rattle.pageaudit.specs.declared.import_run.ImportStatus.{ImportStatus}
use Rattle.pageaudit.specs.declared.import_run.ImportStatus.TheVariants.{Printed, TooLong}
use Rattle.pageaudit.specs.Files.{Device, IsUntouched, IsTextWritten, IsReadWithin, WasReadSoFar}
use Rattle.pageaudit.specs.Status.{fault_number}

-- The frames of one file.

-- one byte more than a file may have
abbrev pub screen_limit : ℕ
screen_limit = MOST_SCREEN + 1

-- the bytes of a file of screens: all that it had, or more than it may have
pub record IsScreenFile (d : Device) (bytes : List ℕ) : Type 0 where
  pub read : WasReadSoFar screen_limit d bytes
  pub whole : length bytes < screen_limit → IsAtEnd d.after.bytes

-- a file whose bytes are judged so
pub record IsFileJudged (d : Device) (kind : FileKind) (path : List ℕ) (file : ℕ) (answer : Result FileFrames FramesFault) : Type 0 where
  pub bytes : List ℕ
  pub is : IsScreenFile d bytes
  pub judged : AreFileFrames (found_in kind path file bytes) answer

-- the frames of the file are the last ones now
pub record AreTakenFrames (d : Device) (kind : FileKind) (path : List ℕ) (file : ℕ) (old new : List Filed) (found : FileFrames) : Type 0 where
  pub are : IsFileJudged d kind path file (Ok found)
  pub added : new ≡ old ++ found.frames.frames

-- a file that gives frames, for which there is no place
pub record AreRefusedPlaces (d : Device) (kind : FileKind) (path : List ℕ) (file : ℕ) (old : List Filed) : Type 0 where
  pub found : FileFrames
  pub are : IsFileJudged d kind path file (Ok found)
  pub full : MOST_LISTED < length old + length found.frames.frames

-- why no frame was added
abbrev pub AreNotTaken : Device → FileKind → List ℕ → ℕ → List Filed → ImportFault → Type 0
AreNotTaken d kind path file old (Screen fault) = IsFileJudged d kind path file (Err (frames.Screen fault))
AreNotTaken d kind path file old TooMany = AreRefusedPlaces d kind path file old
AreNotTaken d kind path file old Broken = BrokeWithin screen_limit d.before d.after
AreNotTaken d kind path file old Memory = IsReadWithin screen_limit d

-- the frames of a file were added, or nothing was
abbrev pub AreFramesTaken : Device → FileKind → List ℕ → ℕ → List Filed → List Filed → Result FileFrames ImportFault → Type 0
AreFramesTaken d kind path file old new (Ok found) = AreTakenFrames d kind path file old new found
AreFramesTaken d kind path file old new (Err fault) = (new ≡ old) × AreNotTaken d kind path file old fault

-- The base of the frames.

-- the text of the base was written; whether routes are guessed
pub record IsBasePrinted (out : Device) (asked : Option ℕ) (guessed : Bool) (frames : List Filed) (answer : Result ImportStatus RunFault) : Type 0 where
  pub text : List ℕ
  pub is : IsBaseText asked guessed frames text
  pub written : IsTextWritten out text Printed answer

-- a run by its answer: nothing was written if the text is too long, `file` being the one of the first frame that ends too late, or
-- if memory was refused
abbrev pub IsImportRun : Device → Option ℕ → Bool → List Filed → Result ImportStatus RunFault → Type 0
IsImportRun out asked guessed frames (Ok Printed) = IsBasePrinted out asked guessed frames (Ok Printed)
IsImportRun out asked guessed frames (Ok (TooLong file)) = IsNoBaseText asked guessed frames (BaseTooLong file) × IsUntouched out
IsImportRun out asked guessed frames (Err (run.Write wrote)) = IsBasePrinted out asked guessed frames (Err (run.Write wrote))
IsImportRun out asked guessed frames (Err run.Memory) = IsUntouched out
IsImportRun out asked guessed frames (Err _) = ⊥

-- the exit status: 3 if a base can't be so long
abbrev pub import_number : Result ImportStatus RunFault → ℕ
import_number (Ok Printed) = 0
import_number (Ok (TooLong file)) = 3
import_number (Err fault) = fault_number fault
