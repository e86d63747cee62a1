-- What a run of map does.
use Rattle.std.specs.Prelude.{◌≡◌, ℕ, List, Option, Some, None, Vec, Result, Ok, Err}
use Rattle.std.specs.declared.alloc.Global.{Global}
use Rattle.frame_records.specs.Bases.{BaseView}
use Rattle.audit_report.specs.declared.run_fault.RunFault.{RunFault}
use Rattle.finder.specs.declared.view.View.{View}
use Rattle.base_map.specs.Map.{IsViewed}
use Rattle.pageaudit.specs.declared.map_run.MapStatus.{MapStatus}
use Rattle.pageaudit.specs.declared.map_run.MapStatus.TheVariants.{Drawn, NoPage}
use Rattle.pageaudit.specs.Files.{Device, IsUntouched, IsTextWritten, IsBaseRun}
use Rattle.pageaudit.specs.Status.{fault_number}

-- the answer for a map, if there is one, and the output; no page if there is none, and then nothing was written
abbrev pub IsMapWritten : Device → Option (Vec ℕ Global) → Result MapStatus RunFault → Type 0
IsMapWritten out (Some text) answer = IsTextWritten out text.items Drawn answer
IsMapWritten out None answer = (answer ≡ Ok NoPage) × IsUntouched out

-- the map of a view of the base was written if there is one
pub record IsMapViewWritten (out : Device) (caller : List ℕ) (view : View) (base : BaseView) (answer : Result MapStatus RunFault) : Type 0 where
  pub map : Option (Vec ℕ Global)
  pub is : IsViewed caller base view map
  pub written : IsMapWritten out map answer

abbrev pub IsMapRun : Device → Device → List ℕ → View → Result MapStatus RunFault → Type 0
IsMapRun base_file out caller view = IsBaseRun base_file (IsUntouched out) (IsMapViewWritten out caller view)

-- the exit status: 2 if there is no such page
abbrev pub map_number : Result MapStatus RunFault → ℕ
map_number (Ok Drawn) = 0
map_number (Ok NoPage) = 2
map_number (Err fault) = fault_number fault
