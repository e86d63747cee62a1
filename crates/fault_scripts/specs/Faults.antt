-- The faults of a base for a policy.
use Rattle.std.specs.Prelude.{ℕ, List, [], ◌∷◌, ◌++◌, Some, None, ◌≡◌, ◌≤◌, ◌<◌, ◌+◌, ◌*◌, Option, slice_get, ◌↔◌, Contains, AllPairs}
use Rattle.page_ids.specs.Ids.{Id}
use Rattle.page_ids.specs.declared.key.Key.{Key}
use Rattle.abstract_paint.specs.declared.start.Start.{Start}
use Rattle.base_faults.specs.declared.fault.Fault.{Fault}
use Rattle.base_faults.specs.declared.fault.FaultKind.{FaultKind}
use Rattle.base_faults.specs.declared.fault.FaultKind.TheVariants as kind
use Rattle.page_ids.specs.declared.key.Key.TheVariants.{Route, Next}
use Rattle.page_ids.specs.declared.way.Way.{Way}
use Rattle.page_ids.specs.Ways.{way_key}
use Rattle.frame_records.specs.declared.frame.Frame.{Frame}
use Rattle.frame_records.specs.declared.ways.Destination.{Destination}
use Rattle.frame_records.specs.declared.ways.Destination.TheVariants as way
use Rattle.frame_records.specs.Bases.{BaseView, frame_at}
use Rattle.frame_records.specs.Seek.{entry_of, seek_entry}
use Rattle.frame_records.specs.Ways.{destination}
use Rattle.abstract_paint.specs.Start.{IsLeastStart}
use Rattle.checker.specs.declared.policy.Policy.{Policy}
use Rattle.finder.specs.declared.found.Discovered.{Discovered}
use Rattle.finder.specs.Finds.{Walk, script, IsFinding}
use Rattle.frame_records.specs.declared.base.Sought.{Sought}
use Rattle.frame_records.specs.declared.base.Sought.TheVariants as sought

-- A fault of each kind. The keys are those that lead to its frame.

-- a fault without a key, a start or a price
abbrev pub plain_fault : FaultKind → Id → List Key → Fault
plain_fault k id keys = record { kind = k; frame = id; key = None; sought = None; script = keys; start = None; price = 0 }

-- a frame that costs too much when it is shown
abbrev pub price_fault : Id → List Key → ℕ → Fault
price_fault id keys price = record { kind = kind.Price; frame = id; key = None; sought = None; script = keys; start = None; price = price }

-- a frame that writes a service position from the start
abbrev pub touch_fault : Id → List Key → Start → Fault
touch_fault id keys start = record { kind = kind.Touches; frame = id; key = None; sought = None; script = keys; start = Some start; price = 0 }

-- a key that seeks a frame which isn't found; the script ends with that key
abbrev pub key_fault : FaultKind → Id → List Key → Key → Id → Fault
key_fault k id keys key to = record { kind = k; frame = id; key = Some key; sought = Some to; script = keys ++ key ∷ []; start = None; price = 0 }

-- Which faults a base has, in the subject's words, for a caller of exactly the policy's groups.

-- a discovered frame: its index in the list of discovered ones, its record and its script
pub record IsPlace (base : BaseView) (found : List Discovered) (i : ℕ) (d : Discovered) (frame : Frame) (keys : List Key) : Type 0 where
  pub listed : slice_get found i ≡ Some d
  pub of_frame : frame_at base d.id ≡ Some frame
  pub script : keys ≡ script found i

-- the frame costs more than the policy's ceiling
pub record PriceIsDue (policy : Policy) (id : Id) (frame : Frame) (keys : List Key) (fault : Fault) : Type 0 where
  pub above : policy.ceiling < frame.price
  pub is : fault ≡ price_fault id keys frame.price

-- the frame isn't clean; the start is the least
pub record TouchIsDue (id : Id) (frame : Frame) (keys : List Key) (fault : Fault) : Type 0 where
  pub start : Start
  pub least : IsLeastStart frame.lead frame.body start
  pub is : fault ≡ touch_fault id keys start

-- a way of the frame has this destination, made of the frame that it seeks
pub record KeyIsDue (caller : List ℕ) (base : BaseView) (id : Id) (keys : List Key) (fault : Fault) (k : FaultKind) (what : Id → Destination) : Type 0 where
  pub through : Way
  pub to : Id
  pub comes_to : destination caller base id through ≡ what to
  pub is : fault ≡ key_fault k id keys (way_key through) to

-- no walk of at most the policy's keyings leads back
pub record NoReturnIsDue (base : BaseView) (policy : Policy) (id : Id) (keys : List Key) (fault : Fault) : Type 0 where
  pub far : (n : ℕ) → n ≤ policy.keyings → Walk policy.groups base id (entry_of base) n → ⊥
  pub is : fault ≡ plain_fault kind.NoReturn id keys

-- a fault of each kind at a discovered frame; a missing frame of a route's page that is listed as outside is none
abbrev pub IsDueAs : FaultKind → BaseView → Policy → Id → Frame → List Key → Fault → Type 0
IsDueAs kind.EntryMissing base policy id frame keys fault = ⊥
IsDueAs kind.EntryClosed base policy id frame keys fault = ⊥
IsDueAs kind.Price base policy id frame keys fault = PriceIsDue policy id frame keys fault
IsDueAs kind.Touches base policy id frame keys fault = TouchIsDue id frame keys fault
IsDueAs kind.Missing base policy id frame keys fault = KeyIsDue policy.groups base id keys fault kind.Missing way.Missing
IsDueAs kind.Closed base policy id frame keys fault = KeyIsDue policy.groups base id keys fault kind.Closed way.Closed
IsDueAs kind.NoReturn base policy id frame keys fault = NoReturnIsDue base policy id keys fault

-- the fault is due at some discovered frame
pub record IsDue (base : BaseView) (policy : Policy) (found : List Discovered) (fault : Fault) : Type 0 where
  pub index : ℕ
  pub discovered : Discovered
  pub frame : Frame
  pub keys : List Key
  pub place : IsPlace base found index discovered frame keys
  pub due : IsDueAs fault.kind base policy discovered.id frame keys fault

-- the number of a key: a digit's own, 10 for `#`
abbrev pub key_number : Option Key → ℕ
key_number (Some (Route digit)) = digit
key_number (Some Next) = 10
key_number _ = 0

-- the place of a fault among those of its frame: Price, Touches, Missing and Closed by key, NoReturn
abbrev pub turn_of : FaultKind → Option Key → ℕ
turn_of kind.EntryMissing key = 0
turn_of kind.EntryClosed key = 0
turn_of kind.Price key = 0
turn_of kind.Touches key = 1
turn_of kind.Missing key = key_number key + 2
turn_of kind.Closed key = key_number key + 2
turn_of kind.NoReturn key = 13

-- its place among all faults, its frame being the i-th discovered
abbrev pub turn_at : ℕ → Fault → ℕ
turn_at i fault = i * 14 + turn_of fault.kind fault.key

-- the fault's frame is the i-th discovered
abbrev pub IsOfPlace : List Discovered → ℕ → Fault → Type 0
IsOfPlace found i fault = (d : Discovered) × (slice_get found i ≡ Some d) × (fault.frame ≡ d.id)

-- the fault is before the other, whatever their places are
abbrev pub ComesBefore : List Discovered → Fault → Fault → Type 0
ComesBefore found x y = (i j : ℕ) → IsOfPlace found i x → IsOfPlace found j y → turn_at i x < turn_at j y

-- What the list of faults of a base is, for a caller of exactly the policy's groups.

-- exactly the faults that are due, each once: in the order of the discovery of their frames, and within a frame of their
-- kinds and keys
pub record AreDue (base : BaseView) (policy : Policy) (found : List Discovered) (faults : List Fault) : Type 0 where
  pub just : (fault : Fault) → Contains faults fault ↔ IsDue base policy found fault
  pub in_order : AllPairs (ComesBefore found) faults

-- those of the discovered frames, which are these
pub record AreFaultsAlong (base : BaseView) (policy : Policy) (faults : List Fault) : Type 0 where
  pub found : List Discovered
  pub finding : IsFinding policy.groups base found
  pub due : AreDue base policy found faults

-- if the entry frame isn't found that is the one fault
abbrev pub AreFaultsBy : Sought → BaseView → Policy → List Fault → Type 0
AreFaultsBy (sought.Found price) base policy faults = AreFaultsAlong base policy faults
AreFaultsBy sought.Closed base policy faults = faults ≡ plain_fault kind.EntryClosed (entry_of base) [] ∷ []
AreFaultsBy sought.Missing base policy faults = faults ≡ plain_fault kind.EntryMissing (entry_of base) [] ∷ []

-- all faults of a base, in order
abbrev pub AreFaults : BaseView → Policy → List Fault → Type 0
AreFaults base policy faults = AreFaultsBy (seek_entry policy.groups base) base policy faults
