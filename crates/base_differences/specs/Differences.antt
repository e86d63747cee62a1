-- What differs between two bases.
use Rattle.std.specs.Prelude.{Bool, true, false, not, ◌&&◌, ◌==◌, nat_eq, List, map, filter, Option, Some, None, is_none}
use Rattle.std.specs.Option.{option_eq}
use Rattle.std.specs.Cmp.Lexicographic.{pointwise}
use Rattle.page_ids.specs.Ids.{Id}
use Rattle.frame_records.specs.declared.frame.Frame.{Frame}
use Rattle.frame_records.specs.declared.frame.Lead.{Lead}
use Rattle.frame_records.specs.declared.frame.Lead.TheVariants.{Clear, Keep}
use Rattle.frame_records.specs.Bases.{BaseView, frame_at}

-- the base has no frame of this one's id
abbrev pub lacks : BaseView → Frame → Bool
lacks base f = is_none (frame_at base f.id)

-- the ids of those frames that a base lacks
abbrev pub ids_lacked : BaseView → List Frame → List Id
ids_lacked base frames = map (λ f. f.id) (filter (lacks base) frames)

abbrev pub lead_eq : Lead → Lead → Bool
lead_eq Clear Clear = true
lead_eq Clear Keep = false
lead_eq Keep Clear = false
lead_eq Keep Keep = true

abbrev pub bool_eq : Bool → Bool → Bool
bool_eq true b = b
bool_eq false b = not b

-- frames that a caller can't tell apart: all is the same but the id
abbrev pub are_same : Frame → Frame → Bool
are_same f g = (f.price == g.price) && (option_eq nat_eq f.group g.group && (bool_eq f.next g.next && (pointwise (option_eq nat_eq) f.routes g.routes && (lead_eq f.lead g.lead && pointwise nat_eq f.body g.body))))

abbrev pub is_another : Option Frame → Frame → Bool
is_another None f = false
is_another (Some old) f = not (are_same old f)

-- the base has another frame of this one's id
abbrev pub differs : BaseView → Frame → Bool
differs base f = is_another (frame_at base f.id) f

abbrev pub has_other_price : Option Frame → Frame → Bool
has_other_price None f = false
has_other_price (Some old) f = not (old.price == f.price)

-- the base has this frame for another price
abbrev pub costs_other : BaseView → Frame → Bool
costs_other base f = has_other_price (frame_at base f.id) f

-- the ids of those frames that a base has for other prices
abbrev pub ids_of_prices : BaseView → List Frame → List Id
ids_of_prices base frames = map (λ f. f.id) (filter (costs_other base) frames)
