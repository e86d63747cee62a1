-- Bases, and the lists that make one.
use Rattle.std.specs.Prelude.{ℕ, ◌≤◌, zero, suc, ◌+◌, ◌-◌, ◌/◌, ◌<◌, List, length, slice_index_or, nat_lt, if◌then◌else◌, ◌≡◌, ◌==◌, ◌&&◌, ◌||◌, Bool, true, false, Option, None, find, map, All, ◌↔◌, Contains, Any, IsPermutation, count_by, Result, Ok, Err}
use Rattle.frame_records.specs.declared.limits.TheConstants.{MOST_PENCE, MOST_GROUP, MOST_LISTED, MOST_BODY}
use Rattle.std.specs.declared.cmp.Ordering.{Ordering}
use Rattle.std.specs.declared.cmp.Ordering.TheVariants.{Less, Equal, Greater}
use Rattle.std.specs.Ordering.{nat_cmp, is_lt}
use Rattle.std.specs.List.{AllAdjacentBelow, list_any}
use Rattle.std.specs.List.Sorted.{IsStrictlyIncreasing}
use Rattle.page_ids.specs.Ids.{Id, id_cmp, id_eq}
use Rattle.frame_records.specs.declared.frame.Frame.{Frame}
use Rattle.frame_records.specs.declared.build.BuildFault.{BuildFault}
use Rattle.frame_records.specs.declared.build.BuildFault.TheVariants.{TooMany, BodyTooLong, NextAfterZ, Duplicate, OutsideInside}

-- The limits of a frame's numbers.

-- whole pence, up to 9,999
abbrev pub IsPrice : ℕ → Type 0
IsPrice n = n ≤ MOST_PENCE

-- a closed user group, 1 to 65,535
abbrev pub IsGroup : ℕ → Type 0
IsGroup n = (1 ≤ n) × (n ≤ MOST_GROUP)

-- Orderings that a binary search can go by.

-- b may come after a
abbrev pub MayFollow : Ordering → Ordering → Type 0
MayFollow Less b = Unit {0}
MayFollow Equal Less = ⊥
MayFollow Equal Equal = ⊥
MayFollow Equal Greater = Unit {0}
MayFollow Greater Less = ⊥
MayFollow Greater Equal = ⊥
MayFollow Greater Greater = Unit {0}

-- those Less first, then at most one Equal, then those Greater
abbrev pub IsSearchable : List Ordering → Type 0
IsSearchable xs = (i j : ℕ) → i < j → j < length xs → MayFollow (slice_index_or xs i Less) (slice_index_or xs j Less)

-- how many entries are compared after the middle one, by how that one compares
abbrev pub after_middle : Ordering → ℕ → ℕ → ℕ
after_middle Less above below = above
after_middle Equal above below = 0
after_middle Greater above below = below

-- how many entries a binary search compares from the place `low` to before `high`, at most as many as the fuel
abbrev pub compared_between : ℕ → List Ordering → ℕ → ℕ → ℕ
compared_between zero xs low high = 0
compared_between (suc fuel) xs low high =
    let middle = low + (high - low) / 2 in
    if nat_lt low high
    then 1 + after_middle (slice_index_or xs middle Less) (compared_between fuel xs (middle + 1) high) (compared_between fuel xs low middle)
    else 0

-- how many entries a binary search compares in all; it compares none twice, so their number is fuel enough
abbrev pub comparisons : List Ordering → ℕ
comparisons xs = compared_between (length xs) xs 0 (length xs)

-- what contracts see of entries that are compared with one: how each compares, and how many were compared
pub record ProbeView : Type 0 where
  pub orderings : List Ordering
  pub count : ℕ

-- What contracts see of a base.

-- the entry page, the outside pages and the frames, both ascending
pub record BaseView : Type 0 where
  pub entry : ℕ
  pub outside : List ℕ
  pub frames : List Frame

-- ids ascend
abbrev pub IsAscending : List Frame → Type 0
IsAscending frames = AllAdjacentBelow (λ f g. id_cmp f.id g.id ≡ Less) frames (length frames)

-- the frame of an id among frames
abbrev pub frame_among : List Frame → Id → Option Frame
frame_among frames id = find (λ f. id_eq f.id id) frames

-- how many frames a binary search for an id compares
abbrev pub frames_compared : List Frame → Id → ℕ
frames_compared frames id = comparisons (map (λ f. id_cmp f.id id) frames)

-- the frame of an id
abbrev pub frame_at : BaseView → Id → Option Frame
frame_at base id = frame_among base.frames id

-- a page is among pages
abbrev pub lists_page : List ℕ → ℕ → Bool
lists_page pages page = list_any (λ p. p == page) pages

-- how many pages a binary search for a page compares
abbrev pub pages_compared : List ℕ → ℕ → ℕ
pages_compared pages page = comparisons (map (λ p. nat_cmp p page) pages)

-- a page is listed as outside
abbrev pub lists_outside : BaseView → ℕ → Bool
lists_outside base page = lists_page base.outside page

-- some frame is on the page
abbrev pub has_page : List Frame → ℕ → Bool
has_page frames page = list_any (λ f. f.id.page == page) frames

-- an outside page has no frame
abbrev pub AreApart : BaseView → Type 0
AreApart base = (id : Id) → lists_outside base id.page ≡ true → frame_at base id ≡ None

-- more frames, or more outside pages, than a base may have
abbrev pub are_too_many : List ℕ → List Frame → Bool
are_too_many outside frames = nat_lt MOST_LISTED (length frames) || nat_lt MOST_LISTED (length outside)

-- a body of over 4,096 bytes
abbrev pub is_body_long : Frame → Bool
is_body_long f = nat_lt MOST_BODY (length f.body)

-- `next` on a frame `z`, whose byte is 122
abbrev pub is_next_after_z : Frame → Bool
is_next_after_z f = f.next && f.id.letter == 122

-- no frame passes the test
abbrev pub NoFrame : (Frame → Bool) → List Frame → Type 0
NoFrame test frames = All (λ f. test f ≡ false) frames

-- what every base keeps
pub record IsBase (base : BaseView) : Type 0 where
  pub few : are_too_many base.outside base.frames ≡ false
  pub short : NoFrame is_body_long base.frames
  pub no_next_after_z : NoFrame is_next_after_z base.frames
  pub ascending : IsAscending base.frames
  pub pages_ascend : IsStrictlyIncreasing base.outside
  pub apart : AreApart base

-- Which base two lists make, or the first refusal. Each refusal but the first names the smallest id or page.

-- the smallest id of a frame that passes the test
pub record IsLeastId (test : Frame → Bool) (frames : List Frame) (id : Id) : Type 0 where
  pub some : Any (λ f. (test f ≡ true) × (f.id ≡ id)) frames
  pub least : All (λ f. test f ≡ true → is_lt (id_cmp f.id id) ≡ false) frames

-- how many frames have the id
abbrev pub frames_with : List Frame → Id → ℕ
frames_with frames id = count_by (λ f. id_eq f.id id) frames

-- no id is that of two frames
abbrev pub NoneTwice : List Frame → Type 0
NoneTwice frames = (id : Id) → frames_with frames id ≤ 1

-- the smallest id that two frames have
pub record IsLeastTwice (frames : List Frame) (id : Id) : Type 0 where
  pub twice : 2 ≤ frames_with frames id
  pub least : (other : Id) → 2 ≤ frames_with frames other → is_lt (id_cmp other id) ≡ false

-- no outside page has a frame
abbrev pub NoneInside : List ℕ → List Frame → Type 0
NoneInside outside frames = (page : ℕ) → Contains outside page → has_page frames page ≡ false

-- the smallest outside page that has a frame
pub record IsLeastInside (outside : List ℕ) (frames : List Frame) (page : ℕ) : Type 0 where
  pub listed : Contains outside page
  pub inside : has_page frames page ≡ true
  pub least : (other : ℕ) → Contains outside other → has_page frames other ≡ true → page ≤ other

-- the refusals in their order: each comes if those before it don't
abbrev pub IsBuildFault : List ℕ → List Frame → BuildFault → Type 0
IsBuildFault outside frames TooMany = are_too_many outside frames ≡ true
IsBuildFault outside frames (BodyTooLong id) = (are_too_many outside frames ≡ false) × IsLeastId is_body_long frames id
IsBuildFault outside frames (NextAfterZ id) = (are_too_many outside frames ≡ false) × NoFrame is_body_long frames × IsLeastId is_next_after_z frames id
IsBuildFault outside frames (Duplicate id) = (are_too_many outside frames ≡ false) × NoFrame is_body_long frames × NoFrame is_next_after_z frames × IsLeastTwice frames id
IsBuildFault outside frames (OutsideInside page) = (are_too_many outside frames ≡ false) × NoFrame is_body_long frames × NoFrame is_next_after_z frames × NoneTwice frames × IsLeastInside outside frames page

-- no refusal applies, and the base has the entry and just these frames and pages, in order
pub record IsBaseOf (entry : ℕ) (outside : List ℕ) (frames : List Frame) (base : BaseView) : Type 0 where
  pub few : are_too_many outside frames ≡ false
  pub short : NoFrame is_body_long frames
  pub no_next_after_z : NoFrame is_next_after_z frames
  pub none_twice : NoneTwice frames
  pub none_inside : NoneInside outside frames
  pub same_entry : base.entry ≡ entry
  pub same_pages : (page : ℕ) → Contains base.outside page ↔ Contains outside page
  pub same_frames : IsPermutation frames base.frames
  pub valid : IsBase base

-- the base of the lists, or their first refusal
abbrev pub IsBuilt : ℕ → List ℕ → List Frame → Result BaseView BuildFault → Type 0
IsBuilt entry outside frames (Ok base) = IsBaseOf entry outside frames base
IsBuilt entry outside frames (Err fault) = IsBuildFault outside frames fault

-- two lists and an entry make one base
abbrev pub BasesAreOne : Type 0
BasesAreOne = (entry : ℕ) (outside : List ℕ) (frames : List Frame) (a b : BaseView) → IsBaseOf entry outside frames a → IsBaseOf entry outside frames b → a ≡ b
