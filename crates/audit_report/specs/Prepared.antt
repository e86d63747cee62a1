-- What is ready for the lines of frames.
use Rattle.std.specs.Prelude.{◌≡◌, ◌≤◌, ℕ, [], Vec, length}
use Rattle.std.specs.Vec.{vec_len, vec_capacity}
use Rattle.std.specs.declared.alloc.Global.{Global}
use Rattle.page_ids.specs.declared.key.Key.{Key}
use Rattle.frame_records.specs.Bases.{BaseView}
use Rattle.finder.specs.Survey.{SurveyView}
use Rattle.audit_report.specs.declared.reached.Reached.{Reached}
use Rattle.audit_report.specs.Listing.{Knows}

-- the frames that are reached are known, and there is room for the keys and the text
pub record IsPrepared (base : BaseView) (survey : SurveyView) (reached : Reached) (keys : Vec Key Global) (text : Vec ℕ Global) : Type 0 where
  pub same : survey.base ≡ base
  pub few_found : length survey.found ≤ 65535
  pub few_frames : length base.frames ≤ 65535
  pub knows : Knows survey.found reached
  pub keys_room : length survey.found ≤ vec_capacity keys
  pub empty : text.items ≡ []
  pub none : vec_len text ≡ 0
  pub room : 262397 ≤ vec_capacity text
