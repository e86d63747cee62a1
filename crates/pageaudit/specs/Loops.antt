-- Facts that hold between the turns of loops, and what functions that aren't exported say. No promise rests on them.
use Rattle.frame_records.specs.Bases.{BaseView}
use Rattle.pageaudit.specs.declared.edition.EditionFault.{EditionFault}
use Rattle.pageaudit.specs.declared.edition.EditionFault.TheVariants as part
use Rattle.pageaudit.specs.Files.{IsUntouched, IsBaseOfFile, IsLinedOfFile, Device, base_limit, IsBaseTextFault, IsBaseBroken, IsReadWithin, cert_limit, IsCertTextFault, IsCertBroken, IsCertOfFile, IsTruncated, WasReadSoFar, WasRead}
use Rattle.pageaudit.specs.ChangeRun.{EditionFiles, IsEditionOf}
use Rattle.std.specs.Prelude.{Result, MatchResult, ℕ, List, Ok, Err, ◌≡◌, false, ◌≤◌, ◌++◌, length, None, true, ◌+◌, Vec}
use Rattle.lint.specs.FrameLines.{frame_lines_in}
use Rattle.lint.specs.declared.lines.WrittenBase.{WrittenBase}
use Rattle.cert_table.specs.Table.{CertView}
use Rattle.base_text.specs.declared.fault.BaseFault.{BaseFault}
use Rattle.devices.specs.declared.reading.SourceFault.{SourceFault}
use Rattle.devices.specs.declared.reading.SourceFault.TheVariants.{Broken, Memory as SourceMemory}
use Rattle.audit_report.specs.declared.run_fault.RunFault.{RunFault}
use Rattle.audit_report.specs.declared.run_fault.RunFault.TheVariants as run
use Rattle.pageaudit.specs.declared.file_fault.FileFault.{FileFault}
use Rattle.pageaudit.specs.declared.file_fault.FileFault.TheVariants as file
use Rattle.cert_text.specs.declared.fault.ReadFault.{ReadFault}
use Rattle.base_text.specs.Whole.{IsTextBase}
use Rattle.checker.specs.Headline.{IsBaseRefused, IsCertRefused}
use Rattle.std.specs.Io.KnownBytes.{Consumes, IsAtEnd, Keeps}
use Rattle.cert_text.specs.Reading.{certificate_fault as text_fault, ReaderView, HasRead, lasting}
use Rattle.screen_files.specs.declared.file.FileFrames.{FileFrames}
use Rattle.screen_files.specs.declared.file.FramesFault.TheVariants as frames
use Rattle.screen_files.specs.declared.file.ScreenFault.{ScreenFault}
use Rattle.screen_files.specs.Files.{AreFileFrames, ScreenList}
use Rattle.pageaudit.specs.declared.import_run.ImportFault.{ImportFault}
use Rattle.pageaudit.specs.declared.import_run.ImportFault.TheVariants.{Screen, Memory}
use Rattle.std.specs.declared.alloc.Global.{Global}
use Rattle.page_ids.specs.declared.key.Key.{Key}
use Rattle.session_machine.specs.Runs.{session_of}
use Rattle.audit_report.specs.declared.status.Status.{Status}
use Rattle.pageaudit.specs.WalkRun.{session_text, session_status}

-- What is read of a file, and why it gives nothing.

-- why a file gives no base: its text is refused, a read failed, or memory was refused
abbrev pub IsBaseFileFault : Device → FileFault BaseFault → Type 0
IsBaseFileFault d (file.Text fault) = IsBaseTextFault d fault
IsBaseFileFault d file.Broken = IsBaseBroken d
IsBaseFileFault d file.Memory = IsReadWithin base_limit d

-- why a file gives no certificate
abbrev pub IsCertFileFault : Device → FileFault ReadFault → Type 0
IsCertFileFault d (file.Text fault) = IsCertTextFault d fault
IsCertFileFault d file.Broken = IsCertBroken d
IsCertFileFault d file.Memory = IsReadWithin cert_limit d

-- the base of a file, or why it gives none
abbrev pub IsBaseRead : Device → Result BaseView (FileFault BaseFault) → Type 0
IsBaseRead d answer = MatchResult answer (IsBaseOfFile d) (IsBaseFileFault d)

-- the same with where its text writes the frames
abbrev pub IsLinedRead : Device → Result WrittenBase (FileFault BaseFault) → Type 0
IsLinedRead d answer = MatchResult answer (λ l. IsLinedOfFile d l.base l.lines) (IsBaseFileFault d)

-- the certificate of a file, or why it gives none
abbrev pub IsCertRead : Device → Result CertView (FileFault ReadFault) → Type 0
IsCertRead d answer = MatchResult answer (IsCertOfFile d) (IsCertFileFault d)

-- the answer for a text alone
abbrev pub IsBaseAnswer : List ℕ → Result BaseView (FileFault BaseFault) → Type 0
IsBaseAnswer text (Ok base) = IsTextBase text base
IsBaseAnswer text (Err (file.Text fault)) = IsBaseRefused text fault
IsBaseAnswer text (Err file.Broken) = ⊥
IsBaseAnswer text (Err file.Memory) = Unit {0}

abbrev pub IsLinedAnswer : List ℕ → Result WrittenBase (FileFault BaseFault) → Type 0
IsLinedAnswer text (Ok l) = IsTextBase text l.base × (l.lines ≡ frame_lines_in text)
IsLinedAnswer text (Err (file.Text fault)) = IsBaseRefused text fault
IsLinedAnswer text (Err file.Broken) = ⊥
IsLinedAnswer text (Err file.Memory) = Unit {0}

-- A certificate's file that is read in pieces.

-- one read of a certificate's file, whose bytes its reader took: `count` of them, and none only at the end
pub record IsCertPieceRead (most : ℕ) (d : Device) (stream : List ℕ) (reader : ReaderView) (count : ℕ) : Type 0 where
  pub piece : List ℕ
  pub counted : length piece ≡ count
  pub within : count ≤ most
  pub given : Consumes d.before.bytes d.after.bytes piece
  pub whole : count ≡ 0 → IsAtEnd d.after.bytes
  pub taken : HasRead reader (stream ++ piece)
  pub right : lasting (text_fault (stream ++ piece)) ≡ None
  pub unbroken : d.after.failed ≡ false

-- the bytes so far have a bad line, whatever follows
pub record IsPieceRefused (most : ℕ) (d : Device) (stream : List ℕ) (fault : ReadFault) : Type 0 where
  pub piece : List ℕ
  pub within : length piece ≤ most
  pub given : Consumes d.before.bytes d.after.bytes piece
  pub first : IsCertRefused (stream ++ piece) fault
  pub lasting : IsTruncated fault → ⊥
  pub unbroken : d.after.failed ≡ false

-- one read of it, or why there was none
abbrev pub IsPieceTaken : ℕ → Device → List ℕ → ReaderView → Result ℕ (FileFault ReadFault) → Type 0
IsPieceTaken most d stream reader (Ok count) = IsCertPieceRead most d stream reader count
IsPieceTaken most d stream reader (Err (file.Text fault)) = IsPieceRefused most d stream fault
IsPieceTaken most d stream reader (Err file.Broken) = Keeps d.before.bytes d.after.bytes × (d.after.failed ≡ true)
IsPieceTaken most d stream reader (Err file.Memory) = IsReadWithin most d

-- the first bytes of a certificate's file were taken by its reader, and `room` more may be
pub record IsBeingFed (d : Device) (reader : ReaderView) (room : ℕ) : Type 0 where
  pub text : List ℕ
  pub read : WasReadSoFar cert_limit d text
  pub counted : length text + room ≡ cert_limit
  pub taken : HasRead reader text
  pub right : lasting (text_fault text) ≡ None

-- all the bytes of a certificate's file were taken by its reader
pub record WasFed (d : Device) (reader : ReaderView) : Type 0 where
  pub text : List ℕ
  pub read : WasRead cert_limit d text
  pub taken : HasRead reader text

-- all of it was taken, or why it gives no certificate
abbrev pub IsFed : Device → ReaderView → Result (Unit {0}) (FileFault ReadFault) → Type 0
IsFed d reader answer = MatchResult answer (λ _. WasFed d reader) (IsCertFileFault d)

-- The files of an edition.

-- why they give no edition: a fault of the base's file, with nothing read of the certificate's; or a fault of the
-- certificate's file, after a whole base
abbrev pub IsEditionFault : EditionFiles → EditionFault → Type 0
IsEditionFault files (part.Base fault) = IsBaseFileFault files.base fault × IsUntouched files.cert
IsEditionFault files (part.Cert fault) = (base : BaseView) × IsBaseOfFile files.base base × IsCertFileFault files.cert fault

-- the edition of the files, or why they give none
abbrev pub IsEditionRead : EditionFiles → Result (BaseView × CertView) EditionFault → Type 0
IsEditionRead files answer = MatchResult answer (λ edition. IsEditionOf files edition.0 edition.1) (IsEditionFault files)

-- What a fault of a lower layer is reported as.

-- for a fault of the source
abbrev pub source_fault : {F : Type 0} → SourceFault → FileFault F
source_fault Broken = file.Broken
source_fault SourceMemory = file.Memory

-- for a fault of the base's file
abbrev pub base_fault : FileFault BaseFault → RunFault
base_fault (file.Text fault) = run.Base fault
base_fault file.Broken = run.ReadBase
base_fault file.Memory = run.Memory

-- for a fault of the certificate's file
abbrev pub cert_fault : FileFault ReadFault → RunFault
cert_fault (file.Text fault) = run.Cert fault
cert_fault file.Broken = run.ReadCert
cert_fault file.Memory = run.Memory

-- for a fault of an old edition's files
abbrev pub old_fault : EditionFault → RunFault
old_fault (part.Base fault) = base_fault fault
old_fault (part.Cert fault) = cert_fault fault

-- for a fault of a new edition's files
abbrev pub new_fault : EditionFault → RunFault
new_fault (part.Base (file.Text fault)) = run.NewBase fault
new_fault (part.Base file.Broken) = run.ReadNewBase
new_fault (part.Base file.Memory) = run.Memory
new_fault (part.Cert (file.Text fault)) = run.NewCert fault
new_fault (part.Cert file.Broken) = run.ReadNewCert
new_fault (part.Cert file.Memory) = run.Memory

-- Frames that are found, and more in an album.

-- the frames of some bytes, or why they give none
abbrev pub AreFramesFound : Result ScreenList ScreenFault → Result FileFrames ImportFault → Type 0
AreFramesFound found (Ok answer) = AreFileFrames found (Ok answer)
AreFramesFound found (Err (Screen fault)) = AreFileFrames found (Err (frames.Screen fault))
AreFramesFound found (Err Memory) = Unit {0}
AreFramesFound found (Err _) = ⊥

-- The text of a session and its status.

-- the text and the status of a caller's session of these keys
abbrev pub IsSessionAnswer : List ℕ → BaseView → List Key → Vec ℕ Global × Status → Type 0
IsSessionAnswer caller base keys (text, status) = (text.items ≡ session_text base (session_of caller base keys)) × (status ≡ session_status (session_of caller base keys))
