-- What contracts see of a list.
use Rattle.std.specs.Prelude.{ℕ, List, Bool}
use Rattle.frame_records.specs.Bases.{BaseView}
use Rattle.finder.specs.declared.found.Discovered.{Discovered}
use Rattle.audit_report.specs.declared.list_form.ListForm.{ListForm}

-- its text, and whether the entry frame is found
pub record ListingView : Type 0 where
  pub text : List ℕ
  pub entry_is_found : Bool

-- what the lines of the frames are written from: their form, the base, and the reached frames
pub record LinesView : Type 0 where
  pub form : ListForm
  pub base : BaseView
  pub found : List Discovered
