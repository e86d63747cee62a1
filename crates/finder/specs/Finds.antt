-- Walks, what is found, and the scripts that lead there.
use Rattle.std.specs.Prelude.{◌≡◌, ◌≤◌, ℕ, zero, suc, List, [], ◌∷◌, Option, Some, None, ◌<◌, ◌++◌, length, reverse, slice_get, ◌≢◌, ◌+◌, ◌↔◌, ◌⊎◌, All, AllPairs, Any, Bool, true, false, is_none}
use Rattle.std.specs.List.{list_any}
use Rattle.page_ids.specs.Ids.{Id, id_eq}
use Rattle.page_ids.specs.declared.key.Key.{Key}
use Rattle.page_ids.specs.declared.way.Way.{Way}
use Rattle.page_ids.specs.Ways.{way_key, way_place}
use Rattle.frame_records.specs.declared.base.Sought.TheVariants as sought
use Rattle.frame_records.specs.Bases.{BaseView, frame_at}
use Rattle.frame_records.specs.Seek.{entry_of, seek_entry}
use Rattle.frame_records.specs.Ways.{Leads}
use Rattle.finder.specs.declared.found.Discovered.{Discovered}
use Rattle.finder.specs.declared.direction.Direction.{Direction}
use Rattle.finder.specs.declared.direction.Direction.TheVariants.{From, To}

-- Which frames the ways lead to. The caller is the list of the groups to which the caller belongs.

-- n ways lead from f to g
abbrev pub Walk : List ℕ → BaseView → Id → Id → ℕ → Type 0
Walk caller base f g zero = f ≡ g
Walk caller base f g (suc n) = (h : Id) × (way : Way) × Walk caller base f h n × Leads caller base h way g

-- a walk of n ways leads back to the entry frame, and none of fewer
pub record IsDistance (caller : List ℕ) (base : BaseView) (f : Id) (n : ℕ) : Type 0 where
  pub walk : Walk caller base f (entry_of base) n
  pub least : (m : ℕ) → Walk caller base f (entry_of base) m → n ≤ m

-- a rank is the distance to the entry frame; without one no walk leads there
abbrev pub IsRank : List ℕ → BaseView → Id → Option ℕ → Type 0
IsRank caller base f (Some n) = IsDistance caller base f n
IsRank caller base f None = (n : ℕ) → Walk caller base f (entry_of base) n → ⊥

-- The frames near a frame.

-- n ways lead from f to g, or from g to f
abbrev pub WalkIn : Direction → List ℕ → BaseView → Id → Id → ℕ → Type 0
WalkIn From caller base f g n = Walk caller base f g n
WalkIn To caller base f g n = Walk caller base g f n

-- at most this many, if a number is given
abbrev pub IsWithin : Option ℕ → ℕ → Type 0
IsWithin None n = Unit {0}
IsWithin (Some most) n = n ≤ most

-- an id is among ids
abbrev pub has_id : List Id → Id → Bool
has_id ids id = list_any (id_eq id) ids

-- exactly the frames that at most this many ways lead to from f, or from which they lead to f
pub record AreWithin (direction : Direction) (caller : List ℕ) (base : BaseView) (f : Id) (most : Option ℕ) (ids : List Id) : Type 0 where
  pub sound : (id : Id) → has_id ids id ≡ true → (n : ℕ) × IsWithin most n × WalkIn direction caller base f id n
  pub whole : (id : Id) (n : ℕ) → IsWithin most n → WalkIn direction caller base f id n → has_id ids id ≡ true

-- those, or none if the base lacks the frame f
abbrev pub IsNear : List ℕ → BaseView → Direction → Id → Option ℕ → Option (List Id) → Type 0
IsNear caller base direction f most None = is_none (frame_at base f) ≡ true
IsNear caller base direction f most (Some ids) = (is_none (frame_at base f) ≡ false) × AreWithin direction caller base f most ids

-- The frames that are reached.

-- the entry frame is neither missing nor closed
abbrev pub EntryIsFound : List ℕ → BaseView → Type 0
EntryIsFound caller base = (price : ℕ) × (seek_entry caller base ≡ sought.Found price)

-- some walk leads to g from the entry frame, which is found
pub record IsReached (caller : List ℕ) (base : BaseView) (g : Id) : Type 0 where
  pub steps : ℕ
  pub entry : EntryIsFound caller base
  pub walk : Walk caller base (entry_of base) g steps

-- the keys lead in turn from one frame to another: each goes a way that is offered, and the frame that it seeks is found
abbrev pub KeysLead : List ℕ → BaseView → Id → List Key → Id → Type 0
KeysLead caller base f [] g = f ≡ g
KeysLead caller base f (key ∷ keys) g = (h : Id) × (way : Way) × (key ≡ way_key way) × Leads caller base f way h × KeysLead caller base h keys g

-- The keys that lead to a listed frame, along the parents.

-- the parent of a discovered frame, and the key that led from it
abbrev pub parent_by : Option ℕ → Option Key → Option (ℕ × Key)
parent_by (Some parent) (Some key) = Some (parent, key)
parent_by (Some parent) None = None
parent_by None key = None

abbrev pub parent_of : Option Discovered → Option (ℕ × Key)
parent_of None = None
parent_of (Some d) = parent_by d.parent d.key

-- the keys back along the parents, from the last to the first, in at most this many turns
abbrev pub keys_along : (ℕ → List Key) → Option (ℕ × Key) → List Key
keys_along before None = []
keys_along before (Some p) = p.1 ∷ before p.0

abbrev pub keys_back : List Discovered → ℕ → ℕ → List Key
keys_back found zero index = []
keys_back found (suc turns) index = keys_along (keys_back found turns) (parent_of (slice_get found index))

-- the keys along the parents from the entry frame to the frame at an index; parents are before their children
abbrev pub script : List Discovered → ℕ → List Key
script found index = reverse (keys_back found (length found) index)

-- a frame's script is its parent's and one key more
abbrev pub ScriptsExtend : List Discovered → Type 0
ScriptsExtend found = (i : ℕ) (p : ℕ × Key) → parent_of (slice_get found i) ≡ Some p → (p.0 < i) × (script found i ≡ script found p.0 ++ p.1 ∷ [])

-- a script leads from the entry frame to its frame; it is the parent's script and one key more
pub record ScriptsLead (caller : List ℕ) (base : BaseView) (found : List Discovered) : Type 0 where
  pub leads : (i : ℕ) (d : Discovered) → slice_get found i ≡ Some d
      → KeysLead caller base (entry_of base) (script found i) d.id
  pub first : (i : ℕ) (d : Discovered) → slice_get found i ≡ Some d → d.parent ≡ None → (i ≡ 0) × (script found i ≡ [])
  pub extends : ScriptsExtend found

-- What the list of discovered frames says of its base. The caller is the list of the groups to which the caller belongs.

-- the index of a listed frame, and one of its ways
abbrev pub Pair : Type 0
Pair = ℕ × Way

-- a frame's pair: its parent's index, and the way of its key
pub record HasPair (d : Discovered) (pair : Pair) : Type 0 where
  pub parent : d.parent ≡ Some pair.0
  pub key : d.key ≡ Some (way_key pair.1)

-- the pair's way leads to the id from the frame listed at the pair's index
pub record PairLeads (caller : List ℕ) (base : BaseView) (found : List Discovered) (pair : Pair) (id : Id) : Type 0 where
  pub from : Discovered
  pub placed : slice_get found pair.0 ≡ Some from
  pub leads : Leads caller base from.id pair.1 id

-- a pair comes before another: its frame is listed before, or it has the same frame and its way is tried before
abbrev pub IsBefore : Pair → Pair → Type 0
IsBefore p q = (p.0 < q.0) ⊎ ((p.0 ≡ q.0) × (way_place p.1 < way_place q.1))

-- the frame's pair is the first that leads to it
pub record HasFirstPair (caller : List ℕ) (base : BaseView) (found : List Discovered) (d : Discovered) : Type 0 where
  pub pair : Pair
  pub has : HasPair d pair
  pub leads : PairLeads caller base found pair d.id
  pub none_before : (other : Pair) → PairLeads caller base found other d.id → IsBefore other pair → ⊥

-- exactly the reached frames, in the order in which they are discovered
pub record FindsReached (caller : List ℕ) (base : BaseView) (found : List Discovered) : Type 0 where
  -- the entry frame is first, without parent or key
  pub first : (d : Discovered) → slice_get found 0 ≡ Some d
      → (d.id ≡ entry_of base) × (d.parent ≡ None) × (d.key ≡ None)
  -- a frame is reached if and only if it is listed
  pub reached : (id : Id) → IsReached caller base id ↔ Any (λ d. d.id ≡ id) found
  -- no frame is listed twice
  pub once : AllPairs (λ d e. d.id ≢ e.id) found
  -- each other frame has a pair, the first that leads to it
  pub pairs : (i : ℕ) (d : Discovered) → slice_get found (i + 1) ≡ Some d → HasFirstPair caller base found d
  -- the pairs ascend
  pub ascend : AllPairs (λ d e. (p q : Pair) → HasPair d p → HasPair e q → IsBefore p q) found

-- each rank is the distance to the entry frame; a frame without one is cut off
abbrev pub RanksAreLeast : List ℕ → BaseView → List Discovered → Type 0
RanksAreLeast caller base found = All (λ d. IsRank caller base d.id d.rank) found

-- all that the list says
pub record IsFinding (caller : List ℕ) (base : BaseView) (found : List Discovered) : Type 0 where
  pub reached : FindsReached caller base found
  pub ranks : RanksAreLeast caller base found
  pub scripts : ScriptsLead caller base found
  pub empty : found ≡ [] ↔ (EntryIsFound caller base → ⊥)
  pub few : length found ≤ length base.frames

-- What holds of every list of the reached frames.

-- two lists of them with their ranks are equal
abbrev pub FoundIsOne : Type 0
FoundIsOne = (caller : List ℕ) (base : BaseView) (a b : List Discovered) → FindsReached caller base a → RanksAreLeast caller base a → FindsReached caller base b → RanksAreLeast caller base b → a ≡ b

-- their scripts lead
abbrev pub AllScriptsLead : Type 0
AllScriptsLead = (caller : List ℕ) (base : BaseView) (found : List Discovered) → FindsReached caller base found → ScriptsLead caller base found
