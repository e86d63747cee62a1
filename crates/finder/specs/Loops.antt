-- Facts that hold between the turns of loops, and what functions that aren't exported say. No promise rests on them.
pub mod WayTargets
pub mod Noted
pub mod Walks
pub mod Entries
use Rattle.std.specs.Prelude.{◌≡◌, ◌<◌, ◌+◌, ◌*◌, ℕ, List, length, get_or, All, Contains, ◌≤◌, Option, Some, None, slice_get, AllPairs, count_by, is_some, ◌≢◌, Bool, true, false, Any, nat_le}
use Rattle.smallvec.specs.SmallVec.{SmallVec}
use Rattle.finder.specs.declared.graph.Graph.{Graph}
use Rattle.finder.specs.declared.direction.Direction.TheVariants.{To}
use Rattle.finder.specs.Loops.Walks.{Goes, IsStep, Comes, turned}
use Rattle.std.specs.List.{AllWithin}
use Rattle.finder.specs.declared.ranks.Ranked.{Ranked}
use Rattle.page_ids.specs.Ids.{Id}
use Rattle.page_ids.specs.Ways.{way_place}
use Rattle.frame_records.specs.Bases.{BaseView}
use Rattle.frame_records.specs.Seek.{entry_of}
use Rattle.finder.specs.declared.discover.Discovery.{Discovery}
use Rattle.finder.specs.declared.found.Discovered.{Discovered}
use Rattle.finder.specs.Finds.{Pair, HasPair, PairLeads, IsBefore, HasFirstPair, RanksAreLeast, Walk, IsRank, has_id}
use Rattle.finder.specs.Survey.{AreNamed, id_at}

-- The neighbours of nodes in the direction of a search.

-- the neighbours of a node
abbrev pub IsListOf : List (SmallVec ℕ) → ℕ → List ℕ → Type 0
IsListOf lists f gs = (d : SmallVec ℕ) → (get_or lists f d).items ≡ gs

-- a node has another as its neighbour
abbrev pub HasNeighbour : List (SmallVec ℕ) → ℕ → ℕ → Type 0
HasNeighbour lists f g = (d : SmallVec ℕ) → Contains (get_or lists f d).items g

-- the ends of a way are neighbours
abbrev pub AreJoined : Graph → List (SmallVec ℕ) → ℕ → ℕ → Type 0
AreJoined graph lists f g = HasNeighbour lists (turned graph.direction f g).0 (turned graph.direction f g).1

-- what the first `done` ways lead to is added
pub record AreNeighbours (graph : Graph) (done : ℕ) (lists : List (SmallVec ℕ)) : Type 0 where
  pub nodes : length lists ≡ graph.table.count
  pub lead : (f : ℕ) (d : SmallVec ℕ) → f < graph.table.count → All (IsStep graph f) (get_or lists f d).items
  pub whole : (f way g : ℕ) → f * 11 + way < done → Goes graph f way g → AreJoined graph lists f g

-- The search from a node.

-- the node has a rank, at most m
abbrev pub HasRank : List (Option ℕ) → ℕ → ℕ → Type 0
HasRank ranks f m = (n : ℕ) × (get_or ranks f None ≡ Some n) × (n ≤ m)

-- each neighbour of a ranked node has a rank, at most one more
abbrev pub IsClosed : Graph → List (Option ℕ) → Ranked → Type 0
IsClosed graph ranks e = (f : ℕ) → IsStep graph e.node f → HasRank ranks f (e.rank + 1)

-- the nodes that have a rank are in a queue in the order of their ranks
pub record AreRanked (graph : Graph) (queue : List Ranked) (ranks : List (Option ℕ)) : Type 0 where
  pub nodes : length ranks ≡ graph.table.count
  pub starts : get_or ranks graph.start None ≡ Some 0
  pub queued : (f n : ℕ) → get_or ranks f None ≡ Some n → Contains queue (record { node = f; rank = n })
  pub count : count_by is_some ranks ≡ length queue
  pub inside : All (λ e. e.node < graph.table.count) queue
  pub walks : All (λ e. Comes graph e.node e.rank) queue
  pub ascend : AllPairs (λ d e. d.rank ≤ e.rank) queue
  pub low : (i : ℕ) (e : Ranked) → slice_get queue i ≡ Some e → e.rank ≤ i

-- the first of them are done
pub record IsSearch (graph : Graph) (done : ℕ) (queue : List Ranked) (ranks : List (Option ℕ)) : Type 0 where
  pub ranked : AreRanked graph queue ranks
  pub near : (e : Ranked) → slice_get queue done ≡ Some e → All (λ d. d.rank ≤ e.rank + 1) queue
  pub closed : AllWithin (IsClosed graph ranks) queue 0 done

-- each node's rank is that of its frame
abbrev pub AreRanks : Graph → List (Option ℕ) → Type 0
AreRanks graph ranks = (f : ℕ) (id : Id) → id_at graph.table.base.now.frames f ≡ Some id → IsRank graph.table.groups.now graph.table.base.now id (get_or ranks f None)

-- the search goes back from the entry frame
pub record IsFromEntry (graph : Graph) : Type 0 where
  pub entry_is : id_at graph.table.base.now.frames graph.start ≡ Some (entry_of graph.table.base.now)
  pub back : graph.direction ≡ To

-- a rank is at most a number, if one is given
abbrev pub is_near : Option ℕ → Option ℕ → Bool
is_near None most = false
is_near (Some n) None = true
is_near (Some n) (Some most) = nat_le n most

-- the ids of the nodes before `done` that are near
pub record AreNear (graph : Graph) (ranks : List (Option ℕ)) (most : Option ℕ) (done : ℕ) (ids : List Id) : Type 0 where
  pub sound : (id : Id) → has_id ids id ≡ true
      → (f : ℕ) × (f < done) × (id_at graph.table.base.now.frames f ≡ Some id) × (is_near (get_or ranks f None) most ≡ true)
  pub whole : (f : ℕ) (id : Id) → f < done → id_at graph.table.base.now.frames f ≡ Some id → is_near (get_or ranks f None) most ≡ true
      → has_id ids id ≡ true

-- The frames that are discovered while the ways are tried one after another.

-- the number of a pair among all pairs
abbrev pub number : Pair → ℕ
number pair = pair.0 * 11 + way_place pair.1

-- each listed frame is reached, by the first pair that leads to it
pub record AreReachedByFirst (caller : List ℕ) (base : BaseView) (found : List Discovered) : Type 0 where
  pub first : (d : Discovered) → slice_get found 0 ≡ Some d
      → (d.id ≡ entry_of base) × (d.parent ≡ None) × (d.key ≡ None)
  pub entry : Any (λ d. d.id ≡ entry_of base) found
  pub walked : All (λ d. (n : ℕ) × Walk caller base (entry_of base) d.id n) found
  pub ranks : RanksAreLeast caller base found
  pub once : AllPairs (λ d e. d.id ≢ e.id) found
  pub pairs : (i : ℕ) (d : Discovered) → slice_get found (i + 1) ≡ Some d → HasFirstPair caller base found d
  pub ascend : AllPairs (λ d e. (p q : Pair) → HasPair d p → HasPair e q → IsBefore p q) found

-- the frames are listed to which the first `done` pairs lead
pub record IsDiscovery (caller : List ℕ) (base : BaseView) (done : ℕ) (found : List Discovered) : Type 0 where
  pub listing : AreReachedByFirst caller base found
  pub before : All (λ d. (p : Pair) → HasPair d p → number p < done) found
  pub closed : (p : Pair) (id : Id) → PairLeads caller base found p id → number p < done → Any (λ d. d.id ≡ id) found

-- exactly the listed nodes are marked
pub record AreMarked (graph : Graph) (nodes : List ℕ) (listed : List Bool) : Type 0 where
  pub room : length listed ≡ graph.table.count
  pub marked : (g : ℕ) → get_or listed g false ≡ true → Contains nodes g
  pub marks : All (λ g. get_or listed g false ≡ true) nodes
  pub count : count_by (λ b. b) listed ≡ length nodes

-- the state of the discovery after the first `done` pairs are tried
pub record IsDiscoveredSoFar (graph : Graph) (done : ℕ) (d : Discovery) : Type 0 where
  pub named : AreNamed graph.table.base.now.frames d.order.keys d.found
  pub marked : AreMarked graph d.order.keys d.listed.items
  pub found : IsDiscovery graph.table.groups.now graph.table.base.now done d.found
