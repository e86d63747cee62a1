-- Facts that hold between the turns of loops, and what functions that aren't exported say. No promise rests on them.
use Rattle.std.specs.Prelude.{ℕ, List, ◌≡◌, false, ◌↔◌, Contains, IsPermutation}
use Rattle.std.specs.List.Sorted.{IsStrictlyIncreasing, IsSortedByKey}
use Rattle.page_ids.specs.Ids.{id_cmp}
use Rattle.frame_records.specs.declared.frame.Frame.{Frame}
use Rattle.frame_records.specs.Bases.{are_too_many, IsAscending, is_body_long, is_next_after_z, NoFrame, NoneInside}

-- The lists of a base while it is built.

-- the lists sorted in place: the same frames, and the same pages, each once
pub record AreSorted (outside pages : List ℕ) (frames sorted : List Frame) : Type 0 where
  pub same_pages : (page : ℕ) → Contains pages page ↔ Contains outside page
  pub pages_ascend : IsStrictlyIncreasing pages
  pub same_frames : IsPermutation frames sorted
  pub frames_sorted : IsSortedByKey (λ f. f.id) id_cmp sorted
  pub few : are_too_many outside frames ≡ false
  pub still_few : are_too_many pages sorted ≡ false

-- frames in order, and none of the refusals but the first
pub record IsUnrefused (outside : List ℕ) (frames : List Frame) : Type 0 where
  pub short : NoFrame is_body_long frames
  pub no_next_after_z : NoFrame is_next_after_z frames
  pub ascending : IsAscending frames
  pub none_inside : NoneInside outside frames
