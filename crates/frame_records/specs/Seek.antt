-- What a caller finds in a base. A caller is the list of the closed user groups to which the caller belongs.
use Rattle.std.specs.Prelude.{◌==◌, ℕ, Bool, true, List, Option, Some, None, slice_index_or, nat_lt, if◌then◌else◌}
use Rattle.std.specs.List.{list_any}
use Rattle.page_ids.specs.Ids.{Id, first_frame}
use Rattle.frame_records.specs.declared.frame.Frame.{Frame}
use Rattle.frame_records.specs.declared.base.Sought.{Sought}
use Rattle.frame_records.specs.declared.base.Sought.TheVariants.{Found, Closed, Missing}
use Rattle.frame_records.specs.Bases.{BaseView, frame_at}

-- a frame's group admits the caller; no group admits everybody
abbrev pub admits : List ℕ → Option ℕ → Bool
admits caller None = true
admits caller (Some group) = list_any (λ held. held == group) caller

-- the frame is open to the caller
abbrev pub is_open : List ℕ → Frame → Bool
is_open caller frame = admits caller frame.group

abbrev pub sought_of : List ℕ → Option Frame → Sought
sought_of caller None = Missing
sought_of caller (Some frame) = if is_open caller frame then Found frame.price else Closed

-- the result of seeking an id: found, with the frame's price; closed to the caller; or missing
abbrev pub seek : List ℕ → BaseView → Id → Sought
seek caller base id = sought_of caller (frame_at base id)

-- the page of a digit's route; digits are 0 to 9
abbrev pub route_of : Frame → ℕ → Option ℕ
route_of frame digit = if nat_lt digit 10 then slice_index_or frame.routes digit None else None

-- the frame at which every session begins: the entry page's frame `a`
abbrev pub entry_of : BaseView → Id
entry_of base = first_frame base.entry

-- the result of seeking it
abbrev pub seek_entry : List ℕ → BaseView → Sought
seek_entry caller base = seek caller base (entry_of base)
