-- What the ways of a frame seek, and where they lead. A caller is the list of the closed user groups to which the caller
-- belongs.
use Rattle.std.specs.Prelude.{◌≡◌, ◌&&◌, ℕ, List, Option, Some, None, option_map, nat_lt, if◌then◌else◌}
use Rattle.page_ids.specs.Ids.{Id, first_frame, following}
use Rattle.page_ids.specs.declared.way.Way.{Way}
use Rattle.page_ids.specs.declared.way.Way.TheVariants.{Route, Next}
use Rattle.frame_records.specs.declared.frame.Frame.{Frame}
use Rattle.frame_records.specs.declared.base.Sought as seeking
use Rattle.frame_records.specs.declared.base.Sought.TheVariants as found
use Rattle.frame_records.specs.declared.ways.Destination.{Destination}
use Rattle.frame_records.specs.declared.ways.Destination.TheVariants.{NotOffered, Found, Closed, Missing, Outside}
use Rattle.frame_records.specs.Bases.{BaseView, frame_at, lists_outside}
use Rattle.frame_records.specs.Seek.{seek, route_of}

-- `#` seeks the following letter, if `next` is true; none follows `z`, which is 122
abbrev pub next_sought : Frame → Option Id
next_sought f = if f.next && nat_lt f.id.letter 122 then Some (following f.id) else None

-- the frame that a way seeks, where it is offered: a route seeks its page's frame `a`
abbrev pub sought : Frame → Way → Option Id
sought f (Route digit) = option_map first_frame (route_of f digit)
sought f Next = next_sought f

-- a frame that is missing: a route may name an outside page
abbrev pub missing_by : BaseView → Way → Id → Destination
missing_by base (Route digit) to = if lists_outside base to.page then Outside to.page else Missing to
missing_by base Next to = Missing to

-- a frame that is sought, by the result of seeking it
abbrev pub sought_by : BaseView → Way → Id → seeking.Sought → Destination
sought_by base way to (found.Found price) = Found to price
sought_by base way to found.Closed = Closed to
sought_by base way to found.Missing = missing_by base way to

-- a way that may be offered
abbrev pub offered_by : List ℕ → BaseView → Way → Option Id → Destination
offered_by caller base way None = NotOffered
offered_by caller base way (Some to) = sought_by base way to (seek caller base to)

-- where a way of a frame leads
abbrev pub destination_of : List ℕ → BaseView → Frame → Way → Destination
destination_of caller base f way = offered_by caller base way (sought f way)

-- if there is no frame, no way is offered
abbrev pub destination_by : List ℕ → BaseView → Way → Option Frame → Destination
destination_by caller base way None = NotOffered
destination_by caller base way (Some f) = destination_of caller base f way

-- where a way of the frame of an id leads
abbrev pub destination : List ℕ → BaseView → Id → Way → Destination
destination caller base id way = destination_by caller base way (frame_at base id)

-- the way of the frame f is offered, and the frame g that it seeks is found
pub record Leads (caller : List ℕ) (base : BaseView) (f : Id) (way : Way) (g : Id) : Type 0 where
  pub price : ℕ
  pub found : destination caller base f way ≡ Found g price
