-- What a run does that writes a base as an HTML file.
use Rattle.std.specs.Prelude.{◌≡◌, ◌⊎◌, ℕ, List, Result, Ok, Err}
use Rattle.page_ids.specs.Ids.{Id}
use Rattle.frame_records.specs.Bases.{BaseView}
use Rattle.checker.specs.declared.policy.Policy.{Policy}
use Rattle.audit_report.specs.declared.run_fault.RunFault.{RunFault}
use Rattle.audit_report.specs.declared.run_fault.RunFault.TheVariants as run
use Rattle.finder.specs.declared.view.View.{View}
use Rattle.lint.specs.declared.lines.WrittenFrame.{WrittenFrame}
use Rattle.base_pages.specs.declared.fault.PagesFault.{PagesFault}
use Rattle.base_pages.specs.declared.fault.PagesFault.TheVariants.{Write, Memory}
use Rattle.base_pages.specs.declared.pages.PagesStatus.{PagesStatus}
use Rattle.base_pages.specs.declared.pages.PagesStatus.TheVariants.{Written, NoPage}
use Rattle.base_pages.specs.Pages.{IsPagesRun}
use Rattle.pageaudit.specs.Files.{Device, IsUntouched, IsLinedOfFile, IsReadWithin, IsBaseRun, IsReadAndWritten, base_limit}
use Rattle.pageaudit.specs.Status.{fault_number}

-- a fault of the file as one of the run
abbrev pub run_of : Result PagesStatus PagesFault → Result PagesStatus RunFault
run_of (Ok status) = Ok status
run_of (Err (Write wrote)) = Err (run.Write wrote)
run_of (Err Memory) = Err run.Memory

-- the file of a view of the base was written, with where the text of the base's file writes each frame; or why it wasn't
pub record IsPagesWritten (base_file out : Device) (name : List ℕ) (policy : Policy) (view : View) (base : BaseView) (answer : Result PagesStatus RunFault) : Type 0 where
  pub pages : Result PagesStatus PagesFault
  pub is : answer ≡ run_of pages
  pub lines : List (Id × WrittenFrame)
  pub lined : IsLinedOfFile base_file base lines
  pub written : IsPagesRun out.before out.after (record { name = name; lines = lines }) base policy view pages

-- memory may be refused after a front of the file was written
abbrev pub IsPagesFileRun : Device → Device → List ℕ → Policy → View → Result PagesStatus RunFault → Type 0
IsPagesFileRun base_file out name policy view (Err run.Memory) =
    (IsReadWithin base_limit base_file × IsUntouched out) ⊎ IsReadAndWritten base_file (IsPagesWritten base_file out name policy view) (Err run.Memory)
IsPagesFileRun base_file out name policy view answer = IsBaseRun base_file (IsUntouched out) (IsPagesWritten base_file out name policy view) answer

-- the exit status: 2 if there is no such page
abbrev pub pages_number : Result PagesStatus RunFault → ℕ
pages_number (Ok Written) = 0
pages_number (Ok NoPage) = 2
pages_number (Err fault) = fault_number fault
