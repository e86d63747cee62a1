-- The answer of lint.
use Rattle.std.specs.Prelude.{◌≡◌, ◌⊎◌, ◌==◌, ℕ, if◌then◌else◌, List}
use Rattle.checker.specs.declared.policy.Policy.{Policy}
use Rattle.lint.specs.declared.finding.Level.TheVariants.{Error}
use Rattle.lint.specs.Findings.{FindingView, count_of}
use Rattle.finding_forms.specs.declared.format.Format.{Format}
use Rattle.finding_forms.specs.Forms.{ArePrinted}
use Rattle.lint.specs.Lint.{IsLint}
use Rattle.pageaudit_c.specs.declared.status.CallStatus.{CallStatus}
use Rattle.pageaudit_c.specs.declared.status.CallStatus.TheVariants.{Clear, Faulty}
use Rattle.pageaudit_c.specs.Calls.{IsOutOfMemory}

-- faulty if and only if there is an error
abbrev pub status_of_findings : List FindingView → CallStatus
status_of_findings findings = if count_of Error findings == 0 then Clear else Faulty

-- every finding in the text is printed in a form
pub record AreFindingsPrinted (format : Format) (name base_text : List ℕ) (policy : Policy) (status : CallStatus) (text : List ℕ) : Type 0 where
  pub findings : List FindingView
  pub are : IsLint base_text policy findings
  pub status_is : status ≡ status_of_findings findings
  pub printed : ArePrinted format name base_text findings text

-- the answer of lint for a text, in a form that says the name of the file
abbrev pub IsLintAnswer : Format → List ℕ → List ℕ → Policy → CallStatus → List ℕ → Type 0
IsLintAnswer format name base_text policy status text =
    AreFindingsPrinted format name base_text policy status text ⊎ IsOutOfMemory status text
