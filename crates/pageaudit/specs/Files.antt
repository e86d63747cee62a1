-- Devices, and the files that they gave.
use Rattle.std.specs.Prelude.{◌≡◌, ℕ, false, List, Result, Ok, Err, ◌≤◌, ◌<◌, ◌+◌, length, None}
use Rattle.std.specs.Io.KnownBytes.{Keeps, Consumes, IsAtEnd}
use Rattle.devices.specs.Devices.{Seen, WroteWhole, WrotePart, BrokeWithin, TookWithin}
use Rattle.audit_report.specs.declared.run_fault.RunFault.{RunFault}
use Rattle.audit_report.specs.declared.run_fault.RunFault.TheVariants as run
use Rattle.page_ids.specs.Ids.{Id}
use Rattle.frame_records.specs.Bases.{BaseView}
use Rattle.base_text.specs.declared.fault.BaseFault.{BaseFault}
use Rattle.base_text.specs.Whole.{IsTextBase}
use Rattle.lint.specs.declared.lines.WrittenFrame.{WrittenFrame}
use Rattle.lint.specs.FrameLines.{frame_lines_in}
use Rattle.cert_table.specs.Table.{CertView}
use Rattle.cert_text.specs.declared.fault.LineCause.TheVariants.{Truncated}
use Rattle.cert_text.specs.declared.fault.ReadFault.{ReadFault}
use Rattle.cert_text.specs.declared.fault.ReadFault.TheVariants as read
use Rattle.cert_text.specs.Grammar.{IsCertificateText}
use Rattle.cert_text.specs.Reading.{certificate_fault, lasting}
use Rattle.checker.specs.Headline.{IsBaseRefused, IsCertRefused}
use Rattle.base_text.specs.declared.limits.TheConstants.{MOST_TEXT}
use Rattle.pageaudit.specs.declared.input.TheConstants.{MOST_CERT}

-- What a run did with one of its devices.

-- what contracts see of a device before a call and after it
pub record Device : Type 0 where
  pub before : Seen
  pub after : Seen

-- for a source or a sink: `seen` is the ghost member of its type
abbrev pub device : {D : Type 0} → (D → Seen) → D → D → Device
device seen old new = record { before = seen old; after = seen new }

-- nothing was read from it or written to it, it was not flushed, and no call failed
pub record IsUntouched (d : Device) : Type 0 where
  pub kept : Keeps d.before.bytes d.after.bytes
  pub unbroken : d.after.failed ≡ false
  pub unflushed : d.after.flushes ≡ d.before.flushes

-- the answer for a text and its status, and the output: the status if the whole text was taken and flushed once; a write fault
-- if its first bytes were taken and then a call failed, the flush if these are all; out of memory if nothing was written
abbrev pub IsTextWritten : {A : Type 0} → Device → List ℕ → A → Result A RunFault → Type 0
IsTextWritten out text status (Ok s) = WroteWhole out.before out.after text × (s ≡ status)
IsTextWritten out text status (Err (run.Write wrote)) = WrotePart out.before out.after text wrote
IsTextWritten out text status (Err run.Memory) = IsUntouched out
IsTextWritten out text status (Err _) = ⊥

-- What a run reads of its files. Of a file that doesn't show its bytes, these definitions say nothing about which bytes.

-- the most bytes that are read of each file: one more than a base may have, and enough to decide any certificate
abbrev pub base_limit : ℕ
base_limit = MOST_TEXT + 1

abbrev pub cert_limit : ℕ
cert_limit = MOST_CERT

-- the first bytes that the file had, no more than the limit; no read failed
pub record WasReadSoFar (limit : ℕ) (d : Device) (text : List ℕ) : Type 0 where
  pub within : length text ≤ limit
  pub given : Consumes d.before.bytes d.after.bytes text
  pub unbroken : d.after.failed ≡ false

-- all the bytes that the file had
pub record WasRead (limit : ℕ) (d : Device) (text : List ℕ) : Type 0 where
  pub so_far : WasReadSoFar limit d text
  pub whole : IsAtEnd d.after.bytes

-- the base of the file's text
pub record IsBaseOfFile (d : Device) (base : BaseView) : Type 0 where
  pub text : List ℕ
  pub read : WasRead base_limit d text
  pub is : IsTextBase text base

-- the base of the file's text, and where the text writes its frames
pub record IsLinedOfFile (d : Device) (base : BaseView) (lines : List (Id × WrittenFrame)) : Type 0 where
  pub text : List ℕ
  pub read : WasRead base_limit d text
  pub is : IsTextBase text base
  pub written : lines ≡ frame_lines_in text

-- the certificate of the file's text
pub record IsCertOfFile (d : Device) (cert : CertView) : Type 0 where
  pub text : List ℕ
  pub read : WasRead cert_limit d text
  pub is : IsCertificateText text cert

-- the text of a base's file, which is all that it had, or longer than a base may be
pub record IsTextOfFile (d : Device) (text : List ℕ) : Type 0 where
  pub read : WasReadSoFar base_limit d text
  pub whole : length text < base_limit → IsAtEnd d.after.bytes

-- the first fault of such a text
pub record IsBaseTextFault (d : Device) (fault : BaseFault) : Type 0 where
  pub text : List ℕ
  pub is : IsTextOfFile d text
  pub first : IsBaseRefused text fault

-- a line that ended early
abbrev pub IsTruncated : ReadFault → Type 0
IsTruncated (read.Line number cause) = cause ≡ Truncated
IsTruncated _ = ⊥

-- the first bad line of a certificate's bytes so far; only at the file's end can the fault be that the text ended early
pub record IsCertTextFault (d : Device) (fault : ReadFault) : Type 0 where
  pub text : List ℕ
  pub read : WasReadSoFar cert_limit d text
  pub whole : IsTruncated fault → IsAtEnd d.after.bytes
  pub first : IsCertRefused text fault

-- a read of a base's file failed, after no more bytes than a base may have
abbrev pub IsBaseBroken : Device → Type 0
IsBaseBroken d = BrokeWithin base_limit d.before d.after

-- a read of a certificate's file failed, after fewer bytes than the limit, none of them in a bad line
pub record IsCertBroken (d : Device) : Type 0 where
  pub broken : BrokeWithin cert_limit d.before d.after
  pub right : lasting (certificate_fault broken.bytes) ≡ None

-- no read of a file failed, and no more bytes than the limit were read
abbrev pub IsReadWithin : ℕ → Device → Type 0
IsReadWithin limit d = TookWithin limit d.before d.after

-- the base's file was read to its end and is right; `Written` holds of the base and the answer
pub record IsReadAndWritten {A : Type 0} (base_file : Device) (Written : BaseView → Result A RunFault → Type 0) (answer : Result A RunFault) : Type 0 where
  pub base : BaseView
  pub base_read : IsBaseOfFile base_file base
  pub written : Written base answer

-- a run over a base, by its answer: after a status or a write fault `Written` holds of the base; after the first fault of the
-- base's file `Nothing` holds, which says that nothing was written
abbrev pub IsBaseRun : {A : Type 0} → Device → Type 0 → (BaseView → Result A RunFault → Type 0) → Result A RunFault → Type 0
IsBaseRun base_file Nothing Written (Ok status) = IsReadAndWritten base_file Written (Ok status)
IsBaseRun base_file Nothing Written (Err (run.Write wrote)) = IsReadAndWritten base_file Written (Err (run.Write wrote))
IsBaseRun base_file Nothing Written (Err (run.Base fault)) = IsBaseTextFault base_file fault × Nothing
IsBaseRun base_file Nothing Written (Err run.ReadBase) = IsBaseBroken base_file × Nothing
IsBaseRun base_file Nothing Written (Err run.Memory) = IsReadWithin base_limit base_file × Nothing
IsBaseRun base_file Nothing Written (Err _) = ⊥
