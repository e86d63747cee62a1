-- What runs of export do.
use Rattle.std.specs.Prelude.{List, Result, Ok, Err}
use Rattle.page_ids.specs.Ids.{Id}
use Rattle.frame_records.specs.Bases.{BaseView}
use Rattle.finder.specs.Survey.{SurveyView}
use Rattle.frame_screens.specs.Frames.{IsWay}
use Rattle.frame_screens.specs.Screens.{screen_codes}
use Rattle.screen_forms.specs.Forms.{form_bytes}
use Rattle.screen_forms.specs.declared.forms.SavedForm.{SavedForm}
use Rattle.audit_report.specs.declared.run_fault.RunFault.{RunFault}
use Rattle.audit_report.specs.declared.run_fault.RunFault.TheVariants as run
use Rattle.audit_report.specs.declared.status.Status.{Status}
use Rattle.audit_report.specs.declared.status.Status.TheVariants.{Clear}
use Rattle.pageaudit.specs.Files.{Device, IsTextWritten, IsBaseOfFile, IsBaseTextFault, IsBaseBroken, IsReadWithin, base_limit}

-- the base of the file, or its first fault
abbrev pub IsExportRead : Device → Result BaseView RunFault → Type 0
IsExportRead d (Ok base) = IsBaseOfFile d base
IsExportRead d (Err (run.Base fault)) = IsBaseTextFault d fault
IsExportRead d (Err run.ReadBase) = IsBaseBroken d
IsExportRead d (Err run.Memory) = IsReadWithin base_limit d
IsExportRead d (Err _) = ⊥

-- the file of a frame's screen was written: the codes of a terminal after the frames that are sent on the keys that lead there, or
-- after the frame alone if no key does, with the centre's rows, in this form
pub record IsScreenWritten (out : Device) (gallery : SurveyView) (form : SavedForm) (id : Id) (answer : Result Status RunFault) : Type 0 where
  pub ids : List Id
  pub way : IsWay gallery.groups gallery.base id ids
  pub written : IsTextWritten out (form_bytes form id (screen_codes gallery.base ids)) Clear answer
