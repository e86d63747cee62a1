-- What a run of the check of a change does.
use Rattle.std.specs.Prelude.{Result, Ok, Err}
use Rattle.frame_records.specs.Bases.{BaseView}
use Rattle.cert_table.specs.Table.{CertView}
use Rattle.checker.specs.declared.policy.Policy.{Policy}
use Rattle.checker.specs.declared.change.ChangeVerdict.{ChangeVerdict}
use Rattle.checker.specs.Change.{change_verdict, IsSafeChange}
use Rattle.audit_report.specs.declared.run_fault.RunFault.{RunFault}
use Rattle.audit_report.specs.declared.run_fault.RunFault.TheVariants as run
use Rattle.audit_report.specs.Lines.{change_text}
use Rattle.audit_report.specs.Statuses.{status_of_change}
use Rattle.audit_report.specs.declared.status.Status.{Status}
use Rattle.pageaudit.specs.Files.{Device, IsUntouched, IsTextWritten, base_limit, cert_limit, IsBaseOfFile, IsCertOfFile, IsBaseTextFault, IsCertTextFault, IsBaseBroken, IsCertBroken, IsReadWithin}
use Rattle.pageaudit.specs.CheckRun.{IsAfterBase}

-- the files of an edition: its base's and its certificate's
pub record EditionFiles : Type 0 where
  pub base : Device
  pub cert : Device

abbrev pub edition_files : Device → Device → EditionFiles
edition_files base cert = record { base = base; cert = cert }

-- both were read to their ends and are right
pub record IsEditionOf (files : EditionFiles) (base : BaseView) (cert : CertView) : Type 0 where
  pub base_read : IsBaseOfFile files.base base
  pub cert_read : IsCertOfFile files.cert cert

-- no read of either file failed, and at most the limit was read of each
abbrev pub AreReadWithin : EditionFiles → Type 0
AreReadWithin files = IsReadWithin base_limit files.base × IsReadWithin cert_limit files.cert

-- nothing was read of either file
abbrev pub AreUntouched : EditionFiles → Type 0
AreUntouched files = IsUntouched files.base × IsUntouched files.cert

-- all four files were read to their ends and are right; `What` holds of the two editions
pub record IsOfEditions (old_files new_files : EditionFiles) (What : BaseView → CertView → BaseView → CertView → Type 0) : Type 0 where
  pub old : BaseView
  pub old_cert : CertView
  pub new : BaseView
  pub new_cert : CertView
  pub old_read : IsEditionOf old_files old old_cert
  pub new_read : IsEditionOf new_files new new_cert
  pub what : What old old_cert new new_cert

-- the line of a verdict was written, and the answer is its status, or a write fault with the number of bytes written
abbrev pub IsVerdictWritten : Device → Result Status RunFault → ChangeVerdict → Type 0
IsVerdictWritten out answer v = IsTextWritten out (change_text v) (status_of_change v) answer

-- that line, of the verdict on the editions of the files
abbrev pub IsChangeVerdictRun : EditionFiles → EditionFiles → Device → Policy → Result Status RunFault → Type 0
IsChangeVerdictRun old_files new_files out policy answer =
    IsOfEditions old_files new_files (λ old old_cert new new_cert. IsVerdictWritten out answer (change_verdict policy old old_cert new new_cert))

-- the change is safe for callers inside
abbrev pub HoldsOfChange : EditionFiles → EditionFiles → Policy → Type 0
HoldsOfChange old_files new_files policy = IsOfEditions old_files new_files (IsSafeChange policy)

-- the old edition's files were read to their ends and are right, `Why` holds of the new edition's, and nothing was written
pub record IsAfterOld (old_files : EditionFiles) (out : Device) (Why : Type 0) : Type 0 where
  pub old : BaseView
  pub old_cert : CertView
  pub old_read : IsEditionOf old_files old old_cert
  pub why : Why
  pub nothing : IsUntouched out

-- a run by its answer: a status after a verdict, or the fault of the first file that has one, with nothing read of the files
-- after it. On every fault except Write nothing was written
abbrev pub IsChangeRun : EditionFiles → EditionFiles → Device → Policy → Result Status RunFault → Type 0
IsChangeRun old new out policy (Ok status) = IsChangeVerdictRun old new out policy (Ok status)
IsChangeRun old new out policy (Err (run.Base fault)) = IsBaseTextFault old.base fault × IsUntouched old.cert × AreUntouched new × IsUntouched out
IsChangeRun old new out policy (Err run.ReadBase) = IsBaseBroken old.base × IsUntouched old.cert × AreUntouched new × IsUntouched out
IsChangeRun old new out policy (Err (run.Cert fault)) = IsAfterBase old.base out (IsCertTextFault old.cert fault × AreUntouched new)
IsChangeRun old new out policy (Err run.ReadCert) = IsAfterBase old.base out (IsCertBroken old.cert × AreUntouched new)
IsChangeRun old new out policy (Err (run.NewBase fault)) = IsAfterOld old out (IsBaseTextFault new.base fault × IsUntouched new.cert)
IsChangeRun old new out policy (Err run.ReadNewBase) = IsAfterOld old out (IsBaseBroken new.base × IsUntouched new.cert)
IsChangeRun old new out policy (Err (run.NewCert fault)) = IsAfterOld old out (IsAfterBase new.base out (IsCertTextFault new.cert fault))
IsChangeRun old new out policy (Err run.ReadNewCert) = IsAfterOld old out (IsAfterBase new.base out (IsCertBroken new.cert))
IsChangeRun old new out policy (Err (run.Write wrote)) = IsChangeVerdictRun old new out policy (Err (run.Write wrote))
IsChangeRun old new out policy (Err run.Memory) = AreReadWithin old × AreReadWithin new × IsUntouched out
IsChangeRun old new out policy (Err _) = ⊥
