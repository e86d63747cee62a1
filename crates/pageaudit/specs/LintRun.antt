-- What a run of lint does.
use Rattle.std.specs.Prelude.{◌≡◌, ℕ, Bool, false, filter, nat_lt, ◌||◌, if◌then◌else◌, List, Result, Ok, Err}
use Rattle.checker.specs.declared.policy.Policy.{Policy}
use Rattle.audit_report.specs.declared.run_fault.RunFault.{RunFault}
use Rattle.audit_report.specs.declared.run_fault.RunFault.TheVariants as run
use Rattle.lint.specs.declared.counts.Counts.{Counts}
use Rattle.lint.specs.declared.finding.Level.{Level}
use Rattle.lint.specs.declared.finding.Level.TheVariants.{Error, Warning}
use Rattle.lint.specs.declared.ignored.Ignored.{Ignored}
use Rattle.lint.specs.Findings.{FindingView, count_of, is_counted, is_error}
use Rattle.pageaudit.specs.declared.lint_run.LintReport.{LintReport}
use Rattle.finding_forms.specs.Forms.{ArePrinted}
use Rattle.lint.specs.Lint.{IsLint}
use Rattle.pageaudit.specs.Files.{Device, IsUntouched, IsTextWritten, base_limit, IsTextOfFile, IsBaseBroken, IsReadWithin}
use Rattle.pageaudit.specs.Status.{fault_number}

abbrev pub counts_of : List FindingView → Counts
counts_of findings = record { errors = count_of Error findings; warnings = count_of Warning findings }

-- each warning counts
abbrev pub all_count : Ignored
all_count = record { unreached = false; hidden = false; line_end = false; escape = false; menu = false; unsought = false }

-- the findings in a text that count, and their numbers
abbrev pub AreCounted : List ℕ → Policy → Ignored → List FindingView → Counts → Type 0
AreCounted text policy ignored counted counts =
    (found : List FindingView) × IsLint text policy found × (counted ≡ filter (is_counted ignored) found) × (counts ≡ counts_of counted)

-- what is written of the findings that count
abbrev pub written_findings : Bool → List FindingView → List FindingView
written_findings quiet findings = if quiet then filter is_error findings else findings

-- the base's file was read, the findings in its text that are to be shown were written in the form, and the answer is the numbers of those
-- that count, or a write fault with the number of bytes written
pub record IsLinted (base_file out : Device) (path : List ℕ) (policy : Policy) (report : LintReport) (answer : Result Counts RunFault) : Type 0 where
  pub text : List ℕ
  pub read : IsTextOfFile base_file text
  pub findings : List FindingView
  pub counts : Counts
  pub are : AreCounted text policy report.ignored findings counts
  pub printed : List ℕ
  pub are_printed : ArePrinted report.format path text (written_findings report.is_quiet findings) printed
  pub written : IsTextWritten out printed counts answer

-- a run by its answer: the numbers of findings, or the first fault of a device
abbrev pub IsLintRun : Device → Device → List ℕ → Policy → LintReport → Result Counts RunFault → Type 0
IsLintRun base_file out path policy report (Ok counts) = IsLinted base_file out path policy report (Ok counts)
IsLintRun base_file out path policy report (Err run.ReadBase) = IsBaseBroken base_file × IsUntouched out
IsLintRun base_file out path policy report (Err (run.Write wrote)) = IsLinted base_file out path policy report (Err (run.Write wrote))
IsLintRun base_file out path policy report (Err run.Memory) = IsReadWithin base_limit base_file × IsUntouched out
IsLintRun base_file out path policy report (Err _) = ⊥

-- there is a finding of this level or a worse one
abbrev pub reaches : Level → Counts → Bool
reaches Error counts = nat_lt 0 counts.errors
reaches Warning counts = nat_lt 0 counts.errors || nat_lt 0 counts.warnings

-- the exit status, 1 for a finding of this level or a worse one
abbrev pub lint_number : Level → Result Counts RunFault → ℕ
lint_number denied (Ok counts) = if reaches denied counts then 1 else 0
lint_number denied (Err fault) = fault_number fault
