-- The answer of a check.
use Rattle.std.specs.Prelude.{ℕ, List, Result, Ok, Err}
use Rattle.checker.specs.declared.policy.Policy.{Policy}
use Rattle.checker.specs.declared.verdict.Verdict.{Verdict}
use Rattle.checker.specs.declared.bytes.InputFault.{InputFault}
use Rattle.checker.specs.Headline.{IsChecked}
use Rattle.audit_report.specs.Lines.{verdict_text}
use Rattle.pageaudit_c.specs.declared.status.CallStatus.{CallStatus}
use Rattle.audit_report.specs.Statuses.{status_of_verdict}
use Rattle.pageaudit_c.specs.Status.{of_judged}
use Rattle.pageaudit_c.specs.Calls.{IsAnswer, IsFaultAnswer}

-- the verdict's line, or that of the first fault in the texts
abbrev pub IsResultAnswer : Result Verdict InputFault → CallStatus → List ℕ → Type 0
IsResultAnswer (Ok verdict) status text = IsAnswer (of_judged (status_of_verdict verdict)) (verdict_text verdict) status text
IsResultAnswer (Err fault) status text = IsFaultAnswer fault status text

-- the answer of the check of two texts
pub record IsCheckAnswer (base cert : List ℕ) (policy : Policy) (status : CallStatus) (text : List ℕ) : Type 0 where
  pub result : Result Verdict InputFault
  pub is : IsChecked base cert policy result
  pub answer : IsResultAnswer result status text
