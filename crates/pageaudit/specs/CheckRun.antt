-- What a run of the check does.
use Rattle.std.specs.Prelude.{ℕ, List, Result, Ok, Err}
use Rattle.frame_records.specs.Bases.{BaseView}
use Rattle.cert_table.specs.Table.{CertView}
use Rattle.checker.specs.declared.policy.Policy.{Policy}
use Rattle.checker.specs.Verdict.{verdict}
use Rattle.checker.specs.Headline.{Headline}
use Rattle.audit_report.specs.declared.run_fault.RunFault.{RunFault}
use Rattle.audit_report.specs.declared.run_fault.RunFault.TheVariants as run
use Rattle.audit_report.specs.Lines.{verdict_text}
use Rattle.audit_report.specs.Statuses.{status_of_verdict}
use Rattle.audit_report.specs.declared.status.Status.{Status}
use Rattle.pageaudit.specs.Files.{Device, IsUntouched, IsTextWritten, base_limit, cert_limit, WasRead, IsBaseOfFile, IsCertOfFile, IsBaseTextFault, IsCertTextFault, IsBaseBroken, IsCertBroken, IsReadWithin}

-- both files were read to their ends and are right; the line of their verdict was written, and the answer is its status, or
-- a write fault with the number of bytes written
pub record IsVerdictRun (base_file cert_file out : Device) (policy : Policy) (answer : Result Status RunFault) : Type 0 where
  pub base : BaseView
  pub cert : CertView
  pub base_read : IsBaseOfFile base_file base
  pub cert_read : IsCertOfFile cert_file cert
  pub written : IsTextWritten out (verdict_text (verdict base policy cert)) (status_of_verdict (verdict base policy cert)) answer

-- the headline holds of the bytes that were read, which are all the bytes of both files
pub record HoldsOfFiles (base_file cert_file : Device) (policy : Policy) : Type 0 where
  pub base_text : List ℕ
  pub cert_text : List ℕ
  pub base_read : WasRead base_limit base_file base_text
  pub cert_read : WasRead cert_limit cert_file cert_text
  pub holds : Headline base_text cert_text policy

-- the base's file was read to its end and is right, `Why` holds of the files after it, and nothing was written
pub record IsAfterBase (base_file out : Device) (Why : Type 0) : Type 0 where
  pub base : BaseView
  pub base_read : IsBaseOfFile base_file base
  pub why : Why
  pub nothing : IsUntouched out

-- a run by its answer: a status after a verdict, or the first fault. After a fault of the base's file nothing was read of the
-- certificate's, and on every fault except Write nothing was written
abbrev pub IsCheckRun : Device → Device → Device → Policy → Result Status RunFault → Type 0
IsCheckRun base_file cert_file out policy (Ok status) = IsVerdictRun base_file cert_file out policy (Ok status)
IsCheckRun base_file cert_file out policy (Err (run.Base fault)) = IsBaseTextFault base_file fault × IsUntouched cert_file × IsUntouched out
IsCheckRun base_file cert_file out policy (Err run.ReadBase) = IsBaseBroken base_file × IsUntouched cert_file × IsUntouched out
IsCheckRun base_file cert_file out policy (Err (run.Cert fault)) = IsAfterBase base_file out (IsCertTextFault cert_file fault)
IsCheckRun base_file cert_file out policy (Err run.ReadCert) = IsAfterBase base_file out (IsCertBroken cert_file)
IsCheckRun base_file cert_file out policy (Err (run.Write wrote)) = IsVerdictRun base_file cert_file out policy (Err (run.Write wrote))
IsCheckRun base_file cert_file out policy (Err run.Memory) = IsReadWithin base_limit base_file × IsReadWithin cert_limit cert_file × IsUntouched out
IsCheckRun base_file cert_file out policy (Err _) = ⊥
