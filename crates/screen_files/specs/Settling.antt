-- One frame of each id.
use Rattle.std.specs.Prelude.{◌≡◌, ℕ, Bool, true, false, not, List, [], ◌∷◌, ◌++◌, Option, Some, None, ◌==◌, ◌&&◌, ◌||◌, IsPermutation, drop, take, if◌then◌else◌}
use Rattle.std.specs.List.{flat_map}
use Rattle.std.specs.List.Sorted.{IsSortedByKey, IsStableByKey}
use Rattle.std.specs.declared.cmp.Ordering.TheVariants.{Less}
use Rattle.page_ids.specs.Ids.{id_cmp, id_eq}
use Rattle.screen_files.specs.declared.filed.Filed.{Filed}
use Rattle.screen_files.specs.declared.filed.Twin.{Twin}
use Rattle.screen_files.specs.declared.filed.ScreenPlace.{ScreenPlace}
use Rattle.screen_files.specs.declared.filed.ScreenPlace.TheVariants.{Whole, Byte, Line}
use Rattle.screen_files.specs.declared.frame.ScreenFrame.{ScreenFrame}

-- Which screen shows all that another shows.

-- whether each cell of the second list is a space (32) or as in the first
unfoldable pub cells_hold : List ℕ → List ℕ → Bool
cells_hold [] ds = true
cells_hold (c ∷ cs) [] = true
cells_hold (c ∷ cs) (d ∷ ds) = (d == 32 || d == c) && cells_hold cs ds

-- rows 1 to 22
abbrev pub inner_codes : List ℕ → List ℕ
inner_codes codes = take 880 (drop 40 codes)

abbrev pub same_price : Option ℕ → Option ℕ → Bool
same_price None None = true
same_price None (Some b) = false
same_price (Some a) None = false
same_price (Some a) (Some b) = a == b

-- the first frame shows all that the second shows: the same price, and each of its cells in rows 1 to 22
abbrev pub holds : ScreenFrame → ScreenFrame → Bool
holds a b = same_price a.price b.price && cells_hold (inner_codes a.codes) (inner_codes b.codes)

-- addresses of two lines
abbrev pub is_other_line : ScreenPlace → ScreenPlace → Bool
is_other_line (Line a) (Line b) = not (a == b)
is_other_line (Line a) Whole = false
is_other_line (Line a) (Byte b) = false
is_other_line Whole b = false
is_other_line (Byte a) b = false

-- and they are of one file, which is a capture if it has several
abbrev pub stands_for : Filed → Filed → Bool
stands_for a b = (a.origin.file == b.origin.file && not (is_other_line a.origin.place b.origin.place)) && holds a.frame b.frame

-- Frames in the order of their ids.

abbrev pub has_same_id : Filed → Filed → Bool
has_same_id a b = id_eq a.frame.id b.frame.id

-- the next one takes the origin of the first of one id if it shows all that the first shows, and more
abbrev pub chosen : Filed → Filed → Filed
chosen kept f = if not (stands_for kept f) && stands_for f kept then f else kept

-- one of each id; `kept` is of the id that comes before these
unfoldable pub kept_from : Filed → List Filed → List Filed
kept_from kept [] = kept ∷ []
kept_from kept (f ∷ fs) = if has_same_id kept f then kept_from (chosen kept f) fs else kept ∷ kept_from f fs

abbrev pub settled_frames : List Filed → List Filed
settled_frames [] = []
settled_frames (f ∷ fs) = kept_from f fs

-- those of one id for which the kept one doesn't stand
abbrev pub twin_of : Filed → Filed → Twin
twin_of kept f = record { id = kept.frame.id; kept = kept.origin; other = f.origin }

abbrev pub twin_if : Filed → Filed → List Twin
twin_if kept f = if stands_for kept f then [] else twin_of kept f ∷ []

abbrev pub twins_among : Filed → List Filed → List Twin
twins_among kept group = flat_map (twin_if kept) group

-- those of all ids; the group is of the id of `kept`, and comes before these
unfoldable pub twins_from : Filed → List Filed → List Filed → List Twin
twins_from kept group [] = twins_among kept group
twins_from kept group (f ∷ fs) =
    if has_same_id kept f
    then twins_from (chosen kept f) (group ++ f ∷ []) fs
    else twins_among kept group ++ twins_from f (f ∷ []) fs

abbrev pub twins_of : List Filed → List Twin
twins_of [] = []
twins_of (f ∷ fs) = twins_from f (f ∷ []) fs

-- What contracts see.

pub record SettledView : Type 0 where
  pub frames : List Filed
  pub twins : List Twin

-- the id before these is smaller than that of the first
abbrev pub IsIdBefore : Filed → List Filed → Type 0
IsIdBefore f [] = Unit {0}
IsIdBefore f (g ∷ gs) = id_cmp f.frame.id g.frame.id ≡ Less

-- ids ascend, so there is one frame of each
unfoldable pub Ascend : List Filed → Type 0
Ascend [] = Unit {0}
Ascend (f ∷ fs) = IsIdBefore f fs × Ascend fs

-- in the order of the ids, those of one id in their order
pub record AreFiledInOrder (filed sorted : List Filed) : Type 0 where
  pub same : IsPermutation filed sorted
  pub ascend : IsSortedByKey (λ (f : Filed). f.frame.id) id_cmp sorted
  pub stable : IsStableByKey (λ (f : Filed). f.frame.id) id_cmp filed sorted

-- one frame of each id, and those for which it doesn't stand
pub record IsSettled (filed : List Filed) (settled : SettledView) : Type 0 where
  pub sorted : List Filed
  pub order : AreFiledInOrder filed sorted
  pub frames : settled.frames ≡ settled_frames sorted
  pub twins : settled.twins ≡ twins_of sorted
