-- The destination of a way, of what a table has of it.
use Rattle.std.proofs.Common.{◌≡◌, ◌≢◌, ℕ, List, Bool, true, false, cond, Option, Some, None, ◌<◌, ◌≤◌, ◌+◌, ◌*◌, get_or, slice_get, refl, sym, ◌∙◌, ap, arith}
use Rattle.std.specs.Prelude.{option_map}
use Rattle.std.proofs.lemmas.Option.{same_Some, slice_get_within}
use Rattle.page_ids.specs.Ids.{Id}
use Rattle.page_ids.specs.declared.way.Way.{Way}
use Rattle.page_ids.specs.declared.way.Way.TheVariants.{Route, Next}
use Rattle.page_ids.specs.Ways.{way_at}
use Rattle.frame_records.specs.declared.frame.Frame.{Frame}
use Rattle.frame_records.specs.declared.base.Sought.{Sought}
use Rattle.frame_records.specs.declared.base.Sought.TheVariants as sought_is
use Rattle.frame_records.specs.declared.ways.Destination.TheVariants as destination_is
use Rattle.frame_records.specs.Bases.{BaseView, lists_outside}
use Rattle.frame_records.specs.Seek.{seek}
use Rattle.frame_records.specs.Ways.{sought, sought_by, missing_by, offered_by, destination_of}
use Rattle.finder.specs.declared.aim.Aim.{Aim}
use Rattle.finder.specs.declared.aim.Aim.TheVariants.{NotOffered, Found}
use Rattle.finder.specs.declared.table.WayTable.{WayTable}
use Rattle.finder.specs.Loops.WayTargets.{aim_of, lost_by, lost_to}

missing_is : (base : BaseView) (way : Way) (to : Id) → lost_by (aim_of (missing_by base way to)) to ≡ missing_by base way to
missing_is base Next to = refl
missing_is base (Route digit) to = by (lists_outside base to.page) where
  by : (b : Bool) → lost_by (aim_of (cond b (destination_is.Outside to.page) (destination_is.Missing to))) to ≡ cond b (destination_is.Outside to.page) (destination_is.Missing to)
  by true = refl
  by false = refl

sought_lost : (base : BaseView) (way : Way) (to : Id) (s : Sought) → aim_of (sought_by base way to s) ≢ Found → lost_by (aim_of (sought_by base way to s)) to ≡ sought_by base way to s
sought_lost base way to (sought_is.Found price) not = absurd (not refl)
sought_lost base way to sought_is.Closed not = refl
sought_lost base way to sought_is.Missing not = missing_is base way to

offered_lost : (caller : List ℕ) (base : BaseView) (way : Way) (o : Option Id) → aim_of (offered_by caller base way o) ≢ Found → lost_to (aim_of (offered_by caller base way o)) o ≡ offered_by caller base way o
offered_lost caller base way None not = refl
offered_lost caller base way (Some to) not = sought_lost base way to (seek caller base to) not

module _ (table : WayTable) (node way : ℕ) (f : Frame) (at : slice_get table.base.now.frames node ≡ Some f) (small : way < 11) where
  -- a way that finds no frame
  pub lost_is : table.count ≤ get_or table.targets.nodes.items (node * 11 + way) 0 → (aim : Aim) → aim ≡ get_or table.targets.aims.items (node * 11 + way) NotOffered → lost_to aim (sought f (way_at way)) ≡ destination_of table.groups.now table.base.now f (way_at way)
  lost_is past aim is =
      let inside = slice_get_within table.base.now.frames node f at in
      let by_node = (table.whole.right node way f (omega (arith, inside, small, table.nodes)) small at).lost (omega (arith, past, table.nodes)) in
      let here : aim ≡ aim_of (destination_of table.groups.now table.base.now f (way_at way)) = is ∙ by_node.0 in
      ap (λ (a : Aim). lost_to a (sought f (way_at way))) here
      ∙ offered_lost table.groups.now table.base.now (way_at way) (sought f (way_at way)) (λ found. by_node.1 (by_node.0 ∙ found))

  -- a way that finds one
  pub found_is : (to : Frame) → get_or table.targets.nodes.items (node * 11 + way) 0 < table.count → slice_get table.base.now.frames (get_or table.targets.nodes.items (node * 11 + way) 0) ≡ Some to → destination_is.Found to.id to.price ≡ destination_of table.groups.now table.base.now f (way_at way)
  found_is to lt there =
      let inside = slice_get_within table.base.now.frames node f at in
      let by_node = (table.whole.right node way f (omega (arith, inside, small, table.nodes)) small at).found (omega (arith, lt, table.nodes)) in
      same_Some (destination_is.Found to.id to.price) (destination_of table.groups.now table.base.now f (way_at way)) (ap (λ (o : Option Frame). option_map (λ (h : Frame). destination_is.Found h.id h.price) o) (sym there) ∙ by_node)
