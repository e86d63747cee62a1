-- Runs over a base, by what was written.
use Rattle.std.proofs.Common.{◌≢◌, ℕ, Bool, List, Option, Some, None, Result, Ok, Err, Vec, Global}
use Rattle.frame_records.specs.Bases.{BaseView}
use Rattle.checker.specs.declared.policy.Policy.{Policy}
use Rattle.fault_scripts.specs.declared.outcome.Outcome.{Outcome}
use Rattle.fault_scripts.specs.declared.outcome.Outcome.TheVariants.{Certified, Faulty}
use Rattle.fault_scripts.specs.Outcomes.{IsOutcomeOf}
use Rattle.audit_report.specs.declared.run_fault.RunFault.{RunFault}
use Rattle.audit_report.specs.declared.run_fault.RunFault.TheVariants as run
use Rattle.audit_report.specs.ReportLines.{report_text, IsReport}
use Rattle.audit_report.specs.declared.list_form.ListForm.{ListForm}
use Rattle.audit_report.specs.Listing.{IsListText}
use Rattle.finder.specs.declared.view.View.{View}
use Rattle.base_map.specs.Map.{IsViewed}
use Rattle.audit_report.specs.Statuses.{status_of_outcome}
use Rattle.audit_report.specs.declared.status.Status.{Status}
use Rattle.pageaudit.specs.declared.map_run.MapStatus.{MapStatus}
use Rattle.pageaudit.specs.declared.map_run.MapStatus.TheVariants.{Drawn}
use Rattle.pageaudit.specs.Files.{Device, IsUntouched, IsTextWritten, IsTextOfFile, IsBaseOfFile, IsBaseRun}
use Rattle.pageaudit.specs.AuditRun.{IsAuditRun, IsAuditIntoRun, IsSplitWritten}
use Rattle.pageaudit.specs.ListRun.{IsListRun, status_of_entry}
use Rattle.pageaudit.specs.MapRun.{IsMapRun, IsMapWritten}
use Rattle.pageaudit.specs.declared.show_run.Target.{Target}
use Rattle.screen_forms.specs.declared.forms.Form.{Form}
use Rattle.pageaudit.specs.declared.show_run.ShowStatus.{ShowStatus}
use Rattle.pageaudit.specs.declared.show_run.ShowStatus.TheVariants.{Shown}
use Rattle.pageaudit.specs.declared.show_run.ShowAnswer.{ShowAnswer}
use Rattle.pageaudit.specs.declared.show_run.ShowAnswer.TheVariants as answer
use Rattle.pageaudit.specs.ShowRun.{IsShown, IsAnswerWritten, IsShowRun}
use Rattle.lint.specs.declared.counts.Counts.{Counts}
use Rattle.lint.specs.Findings.{FindingView}
use Rattle.pageaudit.specs.declared.lint_run.LintReport.{LintReport}
use Rattle.finding_forms.specs.Forms.{ArePrinted}
use Rattle.pageaudit.specs.LintRun.{IsLintRun, AreCounted, written_findings}
use Rattle.pageaudit.proofs.Within.{base_within, text_within}

-- by the answer after a text: a status, a write fault or out of memory
pub by_answer : {A : Type 0} (out : Device) (text : List ℕ) (status : A) (P : Result A RunFault → Type 0)
    → ((s : A) → IsTextWritten out text status (Ok s) → P (Ok s))
    → ((wrote : ℕ) → IsTextWritten out text status (Err (run.Write wrote)) → P (Err (run.Write wrote)))
    → (IsUntouched out → P (Err run.Memory)) → (r : Result A RunFault) → IsTextWritten out text status r → P r
by_answer out text status P all part none (Ok s) w = all s w
by_answer out text status P all part none (Err (run.Write wrote)) w = part wrote w
by_answer out text status P all part none (Err run.Memory) w = none w
by_answer out text status P all part none (Err (run.Base fault)) w = absurd w
by_answer out text status P all part none (Err (run.Cert fault)) w = absurd w
by_answer out text status P all part none (Err (run.Keys offset)) w = absurd w
by_answer out text status P all part none (Err run.Groups) w = absurd w
by_answer out text status P all part none (Err run.ReadBase) w = absurd w
by_answer out text status P all part none (Err run.ReadCert) w = absurd w
by_answer out text status P all part none (Err (run.NewBase fault)) w = absurd w
by_answer out text status P all part none (Err (run.NewCert fault)) w = absurd w
by_answer out text status P all part none (Err run.ReadNewBase) w = absurd w
by_answer out text status P all part none (Err run.ReadNewCert) w = absurd w

module _ (base_file out : Device) (base : BaseView) (read : IsBaseOfFile base_file base) where
  -- a run that read its base and wrote a text
  pub text_run : {A : Type 0} (Nothing : Type 0) (Written : BaseView → Result A RunFault → Type 0) (text : List ℕ) (status : A)
      → (IsUntouched out → Nothing) → ((r : Result A RunFault) → IsTextWritten out text status r → Written base r)
      → (r : Result A RunFault) → IsTextWritten out text status r → IsBaseRun base_file Nothing Written r
  text_run Nothing Written text status none is =
      by_answer out text status (IsBaseRun base_file Nothing Written)
      (λ s w. record { base = base; base_read = read; written = is (Ok s) w })
      (λ wrote w. record { base = base; base_read = read; written = is (Err (run.Write wrote)) w })
      (λ w. (base_within base_file base read, none w))

  pub report_run : (policy : Policy) (o : Outcome) → IsOutcomeOf base policy o
      → (r : Result Status RunFault) → IsTextWritten out (report_text o) (status_of_outcome o) r
      → (r ≢ Err run.Memory → IsReport (report_text o) o) → IsAuditRun base_file out policy r
  report_run policy o is =
      by_answer out (report_text o) (status_of_outcome o)
      (λ r. (r ≢ Err run.Memory → IsReport (report_text o) o) → IsAuditRun base_file out policy r)
      (λ s w made. record { base = base; base_read = read; written = record { outcome = o; is = is; in_grammar = made (λ e. cc (e)); written = w } })
      (λ wrote w made. record { base = base; base_read = read; written = record { outcome = o; is = is; in_grammar = made (λ e. cc (e)); written = w } })
      (λ none made. (base_within base_file base read, none))

  pub list_run : (caller : List ℕ) (form : ListForm) (text : List ℕ) (is_found : Bool) → IsListText caller form base text is_found
      → (r : Result Status RunFault) → IsTextWritten out text (status_of_entry is_found) r → IsListRun base_file out caller form r
  list_run caller form text is_found is =
      text_run _ _ text (status_of_entry is_found) (λ none. none) (λ r w. record { text = text; is_found = is_found; is = is; written = w })

  pub map_run : (caller : List ℕ) (view : View) (map : Option (Vec ℕ Global)) → IsViewed caller base view map
      → (r : Result MapStatus RunFault) → IsMapWritten out map r → IsMapRun base_file out caller view r
  map_run caller view (Some text) is r w =
      text_run _ _ text.items Drawn (λ none. none) (λ r w. record { map = Some text; is = is; written = w }) r w
  map_run caller view None is (Ok s) w = record { base = base; base_read = read; written = record { map = None; is = is; written = w } }
  map_run caller view None is (Err fault) w = absurd (cc (w.0))

  pub show_run : (caller : List ℕ) (what : Target) (f : Form) (shown : ShowAnswer) → IsShown caller what f base shown
      → (r : Result ShowStatus RunFault) → IsAnswerWritten out shown r → IsShowRun base_file out caller what f r
  show_run caller what f (answer.Screen text) is r w =
      text_run _ _ text.items Shown (λ none. none) (λ r w. record { shown = answer.Screen text; is = is; written = w }) r w
  show_run caller what f (answer.Nothing status) is (Ok s) w = record { base = base; base_read = read; written = record { shown = answer.Nothing status; is = is; written = w } }
  show_run caller what f (answer.Nothing status) is (Err fault) w = absurd (cc (w.0))

-- an audit with a file of its own for a certificate
module _ (base_file cert out : Device) (base : BaseView) (read : IsBaseOfFile base_file base) (policy : Policy) where
  pub split_run : (o : Outcome) → IsOutcomeOf base policy o → (r : Result Status RunFault) → IsSplitWritten cert out o r
      → (r ≢ Err run.Memory → IsReport (report_text o) o) → IsAuditIntoRun base_file cert out policy r
  split_run (Certified c) is r w =
      by_answer cert (report_text (Certified c)) (status_of_outcome (Certified c))
      (λ r. (r ≢ Err run.Memory → IsReport (report_text (Certified c)) (Certified c)) → IsAuditIntoRun base_file cert out policy r)
      (λ s text made. record { base = base; base_read = read; written = record { outcome = Certified c; is = is; in_grammar = made (λ e. cc (e)); written = (text, w.1) } })
      (λ wrote text made. record { base = base; base_read = read; written = record { outcome = Certified c; is = is; in_grammar = made (λ e. cc (e)); written = (text, w.1) } })
      (λ none made. (base_within base_file base read, (none, w.1))) r w.0
  split_run (Faulty faults) is r w =
      by_answer out (report_text (Faulty faults)) (status_of_outcome (Faulty faults))
      (λ r. (r ≢ Err run.Memory → IsReport (report_text (Faulty faults)) (Faulty faults)) → IsAuditIntoRun base_file cert out policy r)
      (λ s text made. record { base = base; base_read = read; written = record { outcome = Faulty faults; is = is; in_grammar = made (λ e. cc (e)); written = (text, w.1) } })
      (λ wrote text made. record { base = base; base_read = read; written = record { outcome = Faulty faults; is = is; in_grammar = made (λ e. cc (e)); written = (text, w.1) } })
      (λ none made. (base_within base_file base read, (w.1, none))) r w.0

-- a run of lint that read its text and wrote its findings
pub lint_run : (base_file out : Device) (path text : List ℕ) → IsTextOfFile base_file text → (policy : Policy) (report : LintReport)
    → (findings : List FindingView) (counts : Counts) → AreCounted text policy report.ignored findings counts
    → (printed : List ℕ) → ArePrinted report.format path text (written_findings report.is_quiet findings) printed
    → (r : Result Counts RunFault) → IsTextWritten out printed counts r → IsLintRun base_file out path policy report r
lint_run base_file out path text read policy report findings counts are printed are_printed =
    by_answer out printed counts (IsLintRun base_file out path policy report)
    (λ s w. record { text = text; read = read; findings = findings; counts = counts; are = are; printed = printed; are_printed = are_printed; written = w })
    (λ wrote w. record { text = text; read = read; findings = findings; counts = counts; are = are; printed = printed; are_printed = are_printed; written = w })
    (λ none. (text_within base_file text read, none))
