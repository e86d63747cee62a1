-- Facts that hold between the turns of loops, and what functions that aren't exported say. No promise rests on them.
use Rattle.std.specs.Prelude.{◌≡◌, ◌≤◌, ◌⊎◌, ℕ, List, [], ◌∷◌, Option, Some, None, map, All, Contains, option_map, unwrap_or, ◌<◌, ◌*◌, length, take, AllPairs, IsPermutation, nat_lt, if◌then◌else◌, Bool, true}
use Rattle.std.specs.List.{flat_map}
use Rattle.page_ids.specs.Ids.{Id, id_cmp}
use Rattle.frame_records.specs.declared.frame.Frame.{Frame}
use Rattle.frame_records.specs.Bases.{BaseView, frame_at, IsBase}
use Rattle.abstract_paint.specs.declared.painting.Painted.{Painted}
use Rattle.abstract_paint.specs.declared.painting.Painted.TheVariants.{Clean, Touches}
use Rattle.abstract_paint.specs.Paint.{paint_of}
use Rattle.cert_table.specs.declared.row.Row.{Row}
use Rattle.finder.specs.declared.found.Discovered.{Discovered}
use Rattle.fault_scripts.specs.declared.table.GatheredRows.{GatheredRows}
use Rattle.page_ids.specs.declared.key.Key.{Key}
use Rattle.checker.specs.declared.policy.Policy.{Policy}
use Rattle.finder.specs.Finds.{IsFinding, ScriptsExtend, script}
use Rattle.base_faults.specs.declared.fault.Fault.{Fault}
use Rattle.fault_scripts.specs.declared.frames.Judge.{Judge}
use Rattle.fault_scripts.specs.declared.reporter.Reporter.{Reporter}
use Rattle.fault_scripts.specs.Faults.{IsDue, ComesBefore, turn_at, plain_fault, price_fault, touch_fault, key_fault}
use Rattle.std.specs.List.Sorted.{IsSortedByKey}
use Rattle.cert_table.specs.Table.{CertView, table_fault}
use Rattle.fault_scripts.specs.declared.table.GatheredRows as held
use Rattle.page_ids.specs.Ways.{way_key}
use Rattle.frame_records.specs.declared.ways.Destination.TheVariants as way
use Rattle.base_faults.specs.declared.fault.FaultKind.TheVariants as kind
use Rattle.fault_scripts.specs.declared.frame_fault.FrameFault.{FrameFault}
use Rattle.fault_scripts.specs.declared.frame_fault.FrameFault.TheVariants as wrong
use Rattle.page_ids.specs.declared.way.Way.{Way}
use Rattle.frame_records.specs.declared.ways.Destination.{Destination}

-- The rows of a certificate, gathered from discovered frames, with the greatest price and the greatest rank.

-- the row of a frame that has a rank and is clean
abbrev pub row_if_clean : Id → Option ℕ → Painted → List Row
row_if_clean id None painted = []
row_if_clean id (Some rank) (Touches offset) = []
row_if_clean id (Some rank) (Clean cursor) = record { id = id; rank = rank; cursor = cursor } ∷ []

abbrev pub row_by : Discovered → Option Frame → List Row
row_by d None = []
row_by d (Some frame) = row_if_clean d.id d.rank (paint_of frame.lead frame.body)

-- the row of a discovered frame
abbrev pub row_at : BaseView → Discovered → List Row
row_at base d = row_by d (frame_at base d.id)

-- its price and its rank
abbrev pub price_at : BaseView → Discovered → ℕ
price_at base d = unwrap_or (option_map (λ f. f.price) (frame_at base d.id)) 0

abbrev pub rank_at : Discovered → ℕ
rank_at d = unwrap_or d.rank 0

-- the greatest of some numbers, 0 of none
pub record IsMost (values : List ℕ) (most : ℕ) : Type 0 where
  pub at_most : All (λ v. v ≤ most) values
  pub some : Contains values most ⊎ (most ≡ 0)

-- what is gathered from these discovered frames
pub record IsGathered (base : BaseView) (frames : List Discovered) (t : GatheredRows) : Type 0 where
  pub rows : t.rows.items ≡ flat_map (row_at base) frames
  pub ceiling : IsMost (map (price_at base) frames) t.ceiling
  pub keyings : IsMost (map rank_at frames) t.keyings

-- How far the frames have been judged that a caller of exactly the policy's groups discovers.

-- the kept keys are the script of the frame for which they are kept
abbrev pub HasScript : List Discovered → Option ℕ → List Key → Type 0
HasScript found None keys = Unit {0}
HasScript found (Some i) keys = keys ≡ script found i

-- the kept keys can lead on to the frame at an index
pub record CanLead (found : List Discovered) (index : ℕ) (at : Option ℕ) (keys : List Key) : Type 0 where
  pub within : index < length found
  pub extends : ScriptsExtend found
  pub script : HasScript found at keys

-- a fault that is due before a place in the order of all that is asked
pub record IsDueBelow (base : BaseView) (policy : Policy) (found : List Discovered) (place : ℕ) (fault : Fault) : Type 0 where
  pub due : IsDue base policy found fault
  pub below : turn_at due.index fault < place

-- exactly those have been reported, in order
pub record IsReported (base : BaseView) (policy : Policy) (found : List Discovered) (place : ℕ) (faults : List Fault) : Type 0 where
  pub just : All (IsDueBelow base policy found place) faults
  pub whole : (fault : Fault) → IsDueBelow base policy found place fault → Contains faults fault
  pub in_order : AllPairs (ComesBefore found) faults

-- a reporter that has reported them
pub record IsReporting (base : BaseView) (policy : Policy) (found : List Discovered) (place : ℕ) (t : Reporter) : Type 0 where
  pub finding : IsFinding policy.groups base found
  pub script : HasScript found t.at t.keys.items
  pub reported : IsReported base policy found place t.faults.items

-- the faults of the first frames have been reported, and their rows gathered
pub record IsAuditedSoFar (base : BaseView) (policy : Policy) (found : List Discovered) (done : ℕ) (j : Judge) : Type 0 where
  pub reporting : IsReporting base policy found (done * 14) j.reporter
  pub gathered : IsGathered base (take done found) j.table

-- all frames of a base have been judged
pub record IsWhole (base : BaseView) (policy : Policy) (j : Judge) : Type 0 where
  pub valid : IsBase base
  pub found : List Discovered
  pub judged : IsAuditedSoFar base policy found (length found) j

-- The rows of a certificate, put in order.

-- the same rows in the order of their ids
pub record AreSortedRows (rows sorted : List Row) : Type 0 where
  pub same : IsPermutation rows sorted
  pub in_order : IsSortedByKey (λ r. r.id) id_cmp sorted

-- put in order they make a table
abbrev pub IsTableInOrder : List Row → Type 0
IsTableInOrder rows = (sorted : List Row) → AreSortedRows rows sorted → table_fault sorted ≡ None

-- the certificate has these parts and the caller's groups, its rows in order
pub record IsSortedTable (base : BaseView) (caller : List ℕ) (t : held.GatheredRows) (cert : CertView) : Type 0 where
  pub entry : cert.entry ≡ base.entry
  pub ceiling : cert.ceiling ≡ t.ceiling
  pub keyings : cert.keyings ≡ t.keyings
  pub groups : cert.groups ≡ caller
  pub rows : AreSortedRows t.rows.items cert.rows

-- What is asked of a discovered frame, and what each answer is, for a caller of exactly the policy's groups.

-- the fault of a frame to which the keys lead
abbrev pub fault_of : Id → List Key → FrameFault → Fault
fault_of id keys (wrong.Price price) = price_fault id keys price
fault_of id keys (wrong.Touches start) = touch_fault id keys start
fault_of id keys (wrong.Missing way to) = key_fault kind.Missing id keys (way_key way) to
fault_of id keys (wrong.Closed way to) = key_fault kind.Closed id keys (way_key way) to
fault_of id keys wrong.NoReturn = plain_fault kind.NoReturn id keys

-- a price above the ceiling
abbrev pub over_price : ℕ → ℕ → Option FrameFault
over_price ceiling price = if nat_lt ceiling price then Some (wrong.Price price) else None

-- a way, by its destination
abbrev pub way_fault : Way → Destination → Option FrameFault
way_fault w way.NotOffered = None
way_fault w (way.Found to price) = None
way_fault w (way.Closed to) = Some (wrong.Closed w to)
way_fault w (way.Missing to) = Some (wrong.Missing w to)
way_fault w (way.Outside page) = None

-- the rank is above the keyings, or there is none
abbrev pub is_far : ℕ → Option ℕ → Bool
is_far keyings None = true
is_far keyings (Some rank) = nat_lt keyings rank

-- the way back
abbrev pub return_fault : ℕ → Option ℕ → Option FrameFault
return_fault keyings rank = if is_far keyings rank then Some wrong.NoReturn else None
