-- What an audit certifies, the check clears: of two runs over the same bytes.
use Rattle.std.specs.Prelude.{◌≡◌, ◌⊎◌, List, [], ℕ, Some, Result, Ok, Err}
use Rattle.devices.specs.Devices.{WroteWhole, WrotePart}
use Rattle.checker.specs.declared.policy.Policy.{Policy}
use Rattle.checker.specs.declared.verdict.Verdict.TheVariants.{Cleared}
use Rattle.audit_report.specs.declared.run_fault.RunFault.{RunFault}
use Rattle.audit_report.specs.declared.run_fault.RunFault.TheVariants as run
use Rattle.audit_report.specs.Lines.{verdict_text}
use Rattle.audit_report.specs.declared.status.Status.{Status}
use Rattle.audit_report.specs.declared.status.Status.TheVariants.{Clear}
use Rattle.pageaudit.specs.Files.{Device, IsUntouched}
use Rattle.pageaudit.specs.AuditRun.{IsAuditRun, IsAuditIntoRun}
use Rattle.pageaudit.specs.CheckRun.{IsCheckRun}

-- an audit of a base's file, with or without an output of its own for the certificate, ended with one
abbrev pub IsCertifying : Device → Device → Policy → Type 0
IsCertifying base_file cert policy =
    IsAuditRun base_file cert policy (Ok Clear) ⊎ ((out : Device) × IsAuditIntoRun base_file cert out policy (Ok Clear))

-- it read this text, and wrote that one to a device that was empty
pub record IsFirstRun (base_text cert_text : List ℕ) (policy : Policy) : Type 0 where
  pub base_file : Device
  pub cert : Device
  pub audit : IsCertifying base_file cert policy
  pub base_is : base_file.before.bytes ≡ Some base_text
  pub cert_was : cert.before.bytes ≡ Some []
  pub cert_is : cert.after.bytes ≡ Some cert_text

-- a check of these two texts
pub record IsSecondRun (base_text cert_text : List ℕ) (out : Device) (policy : Policy) (answer : Result Status RunFault) : Type 0 where
  pub base_file : Device
  pub cert_file : Device
  pub check : IsCheckRun base_file cert_file out policy answer
  pub base_is : base_file.before.bytes ≡ Some base_text
  pub cert_is : cert_file.before.bytes ≡ Some cert_text

-- the check is Clear, and its line was written; or a device failed, or memory was refused. No text has a fault, and no other
-- verdict is given
abbrev pub IsClearing : Device → Result Status RunFault → Type 0
IsClearing out (Ok status) = WroteWhole out.before out.after (verdict_text Cleared) × (status ≡ Clear)
IsClearing out (Err (run.Write wrote)) = WrotePart out.before out.after (verdict_text Cleared) wrote
IsClearing out (Err run.ReadBase) = IsUntouched out
IsClearing out (Err run.ReadCert) = IsUntouched out
IsClearing out (Err run.Memory) = IsUntouched out
IsClearing out (Err _) = ⊥

abbrev pub CertifiedIsCleared : Type 0
CertifiedIsCleared =
    (base_text cert_text : List ℕ) (policy : Policy) (out : Device) (answer : Result Status RunFault)
    → IsFirstRun base_text cert_text policy → IsSecondRun base_text cert_text out policy answer → IsClearing out answer
