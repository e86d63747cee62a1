-- The answer of an audit.
use Rattle.std.specs.Prelude.{◌≡◌, ◌⊎◌, ℕ, List}
use Rattle.frame_records.specs.Bases.{BaseView}
use Rattle.base_text.specs.Whole.{IsTextBase}
use Rattle.checker.specs.declared.policy.Policy.{Policy}
use Rattle.checker.specs.declared.bytes.InputFault.TheVariants as input
use Rattle.checker.specs.Headline.{IsBaseRefused}
use Rattle.base_text.specs.declared.fault.BaseFault.{BaseFault}
use Rattle.fault_scripts.specs.declared.outcome.Outcome.{Outcome}
use Rattle.fault_scripts.specs.Outcomes.{IsOutcomeOf}
use Rattle.audit_report.specs.ReportLines.{report_text}
use Rattle.pageaudit_c.specs.declared.status.CallStatus.{CallStatus}
use Rattle.audit_report.specs.Statuses.{status_of_outcome}
use Rattle.pageaudit_c.specs.Status.{of_judged}
use Rattle.pageaudit_c.specs.Calls.{IsOutOfMemory, IsFaultAnswer}

-- the text is that of a base, and its outcome was reported
pub record IsAuditReported (base_text : List ℕ) (policy : Policy) (due : CallStatus) (text : List ℕ) : Type 0 where
  pub base : BaseView
  pub of_base : IsTextBase base_text base
  pub outcome : Outcome
  pub is : IsOutcomeOf base policy outcome
  pub status_is : due ≡ of_judged (status_of_outcome outcome)
  pub report : text ≡ report_text outcome

-- the text is that of no base: its first fault
pub record IsBaseFault (base_text : List ℕ) (due : CallStatus) (text : List ℕ) : Type 0 where
  pub fault : BaseFault
  pub is : IsBaseRefused base_text fault
  pub answer : IsFaultAnswer (input.Base fault) due text

-- the answer of the audit of a text
abbrev pub IsAuditAnswer : List ℕ → Policy → CallStatus → List ℕ → Type 0
IsAuditAnswer base_text policy due text = IsAuditReported base_text policy due text ⊎ (IsBaseFault base_text due text ⊎ IsOutOfMemory due text)
