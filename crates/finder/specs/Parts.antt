-- Parts of a base: the frames near a page.
use Rattle.std.specs.Prelude.{◌≡◌, ℕ, Bool, true, List, Option, Some, None}
use Rattle.page_ids.specs.Ids.{Id, first_frame}
use Rattle.frame_records.specs.Bases.{BaseView}
use Rattle.finder.specs.Finds.{IsNear, has_id}
use Rattle.finder.specs.declared.direction.Direction.{Direction}
use Rattle.finder.specs.declared.direction.Direction.TheVariants as direction
use Rattle.finder.specs.declared.view.View.{View}
use Rattle.finder.specs.declared.view.View.TheVariants.{Whole, From, To}

-- a part has the frame of an id: it is among these, or all are
abbrev pub part_shows : Option (List Id) → Id → Bool
part_shows None id = true
part_shows (Some ids) id = has_id ids id

-- exactly the frames that at most this many keys lead to from a page's frame `a`, or from which they lead to it; none if the base
-- lacks that frame
abbrev pub IsWindow : List ℕ → BaseView → Direction → ℕ → Option ℕ → Option (Option (List Id)) → Type 0
IsWindow caller base direction page most None = IsNear caller base direction (first_frame page) most None
IsWindow caller base direction page most (Some None) = ⊥
IsWindow caller base direction page most (Some (Some ids)) = IsNear caller base direction (first_frame page) most (Some ids)

-- the part of a view; none if the base lacks the frame `a` of its page
abbrev pub IsViewPart : List ℕ → BaseView → View → Option (Option (List Id)) → Type 0
IsViewPart caller base Whole part = part ≡ Some None
IsViewPart caller base (From page most) part = IsWindow caller base direction.From page most part
IsViewPart caller base (To page most) part = IsWindow caller base direction.To page most part
