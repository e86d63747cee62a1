-- What a run of the audit does.
use Rattle.std.specs.Prelude.{Result}
use Rattle.frame_records.specs.Bases.{BaseView}
use Rattle.checker.specs.declared.policy.Policy.{Policy}
use Rattle.fault_scripts.specs.declared.outcome.Outcome.{Outcome}
use Rattle.fault_scripts.specs.declared.outcome.Outcome.TheVariants.{Certified, Faulty}
use Rattle.fault_scripts.specs.Outcomes.{IsOutcomeOf}
use Rattle.audit_report.specs.declared.run_fault.RunFault.{RunFault}
use Rattle.audit_report.specs.ReportLines.{report_text, IsReport}
use Rattle.audit_report.specs.Statuses.{status_of_outcome}
use Rattle.audit_report.specs.declared.status.Status.{Status}
use Rattle.pageaudit.specs.Files.{Device, IsUntouched, IsTextWritten, IsBaseRun}

-- `Written` holds of the base's outcome and the answer; a certificate's text is in the grammar with it
pub record IsOutcomeWritten (Written : Outcome → Result Status RunFault → Type 0) (policy : Policy) (base : BaseView) (answer : Result Status RunFault) : Type 0 where
  pub outcome : Outcome
  pub is : IsOutcomeOf base policy outcome
  pub in_grammar : IsReport (report_text outcome) outcome
  pub written : Written outcome answer

-- the report of an outcome was written, and the answer is its status, or a write fault with the number of bytes written
abbrev pub IsReportWritten : Device → Outcome → Result Status RunFault → Type 0
IsReportWritten out outcome answer = IsTextWritten out (report_text outcome) (status_of_outcome outcome) answer

-- a run that prints the report
abbrev pub IsAuditRun : Device → Device → Policy → Result Status RunFault → Type 0
IsAuditRun base_file out policy = IsBaseRun base_file (IsUntouched out) (IsOutcomeWritten (IsReportWritten out) policy)

-- a certificate was written to its own file, and nothing to the output; or every fault to the output, and nothing to that file
abbrev pub IsSplitWritten : Device → Device → Outcome → Result Status RunFault → Type 0
IsSplitWritten cert out (Certified c) answer = IsReportWritten cert (Certified c) answer × IsUntouched out
IsSplitWritten cert out (Faulty faults) answer = IsReportWritten out (Faulty faults) answer × IsUntouched cert

-- a run with a file of its own for a certificate
abbrev pub IsAuditIntoRun : Device → Device → Device → Policy → Result Status RunFault → Type 0
IsAuditIntoRun base_file cert out policy = IsBaseRun base_file (IsUntouched cert × IsUntouched out) (IsOutcomeWritten (IsSplitWritten cert out) policy)
