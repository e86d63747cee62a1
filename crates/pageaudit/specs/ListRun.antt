-- What a run of the list does.
use Rattle.std.specs.Prelude.{ℕ, Bool, List, Result, if◌then◌else◌}
use Rattle.frame_records.specs.Bases.{BaseView}
use Rattle.audit_report.specs.declared.run_fault.RunFault.{RunFault}
use Rattle.audit_report.specs.declared.list_form.ListForm.{ListForm}
use Rattle.audit_report.specs.Listing.{IsListText}
use Rattle.audit_report.specs.declared.status.Status.{Status}
use Rattle.audit_report.specs.declared.status.Status.TheVariants.{Clear, Faulty}
use Rattle.pageaudit.specs.Files.{Device, IsUntouched, IsTextWritten, IsBaseRun}

-- clear if and only if the entry frame is found
abbrev pub status_of_entry : Bool → Status
status_of_entry is_found = if is_found then Clear else Faulty

-- the list of a base's frames was written, and the answer is its status, or a write fault with the number of bytes written
pub record IsListWritten (out : Device) (caller : List ℕ) (form : ListForm) (base : BaseView) (answer : Result Status RunFault) : Type 0 where
  pub text : List ℕ
  pub is_found : Bool
  pub is : IsListText caller form base text is_found
  pub written : IsTextWritten out text (status_of_entry is_found) answer

abbrev pub IsListRun : Device → Device → List ℕ → ListForm → Result Status RunFault → Type 0
IsListRun base_file out caller form = IsBaseRun base_file (IsUntouched out) (IsListWritten out caller form)
