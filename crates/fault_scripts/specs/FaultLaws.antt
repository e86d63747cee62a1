-- What the list of faults says, of every base and policy, for a caller of exactly the policy's groups.
use Rattle.std.specs.Prelude.{◌≡◌, ◌≢◌, ◌↔◌, ℕ, List, [], Contains, AllPairs}
use Rattle.frame_records.specs.declared.base.Sought.TheVariants as sought
use Rattle.frame_records.specs.Bases.{BaseView, AreApart}
use Rattle.frame_records.specs.Seek.{seek_entry}
use Rattle.checker.specs.declared.policy.Policy.{Policy}
use Rattle.checker.specs.Safe.{Safe}
use Rattle.base_faults.specs.declared.fault.Fault.{Fault}
use Rattle.fault_scripts.specs.Faults.{AreFaults, AreFaultsAlong}
use Rattle.fault_scripts.specs.Shows.{Shows}

-- exactly the faults that are due at the discovered frames, each once and in order
pub record HasJustTheDue (base : BaseView) (policy : Policy) (faults : List Fault) : Type 0 where
  pub along : AreFaultsAlong base policy faults
  pub once : AllPairs (λ x y. x ≢ y) faults

-- if a session can be opened, the list has exactly the faults that are due, each once, in the order of discovery and
-- within a frame of their kinds and keys
abbrev pub FaultsAreDue : Type 0
FaultsAreDue = (base : BaseView) (policy : Policy) (price : ℕ) (faults : List Fault) → seek_entry policy.groups base ≡ sought.Found price → AreFaults base policy faults → HasJustTheDue base policy faults

-- every base and policy have one list of faults
abbrev pub FaultsAreOne : Type 0
FaultsAreOne = (base : BaseView) (policy : Policy) (a b : List Fault) → AreFaults base policy a → AreFaults base policy b → a ≡ b

-- each fault is borne out by its script
abbrev pub FaultsAreShown : Type 0
FaultsAreShown = (base : BaseView) (policy : Policy) (faults : List Fault) (fault : Fault) → AreFaults base policy faults → Contains faults fault → Shows base policy fault

-- there is none if and only if the base is safe within the policy. The premise is what every base keeps: no frame is on
-- an outside page
abbrev pub NoneIsSafe : Type 0
NoneIsSafe = (base : BaseView) (policy : Policy) (faults : List Fault) → AreApart base → AreFaults base policy faults → (faults ≡ []) ↔ Safe policy.groups base policy.ceiling policy.keyings
