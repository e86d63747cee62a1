-- Facts that hold between the turns of loops, and what functions that aren't exported say. No promise rests on them.
use Rattle.std.specs.Prelude.{List, Result, Ok, Err, Vec, ◌≡◌, ℕ, Option, Some, None, [], ◌∷◌, map, option_map, ◌⊎◌}
use Rattle.std.specs.declared.alloc.Global.{Global}
use Rattle.base_text.specs.Details.{Read, KeptView, with_all, kept, cause_of}
use Rattle.base_text.specs.declared.detail.Detail.{Detail}
use Rattle.base_text.specs.Drafts.{TopView, draft_fault, element_faults, elements_faults, elements_placed, framed}
use Rattle.base_text.specs.declared.fault.BaseFault.{BaseFault}
use Rattle.base_text.specs.Frames.{fault_in, ElementView, top_fault}
use denote.Ref.{Bor}
use Rattle.toml.specs.Data.{Data, Items}
use Rattle.toml.specs.View.{view}
use Rattle.toml.specs.declared.value.Value.{Value}
use Rattle.base_text.specs.declared.fault.BaseCause.TheVariants.{Memory}
use Rattle.base_text.specs.declared.detail.TextFault.{TextFault}
use Rattle.frame_records.specs.declared.frame.Frame.{Frame}

-- What is read of a value.

-- the data of a value that was found
abbrev pub data_seen : Option (Bor Value) → Option Data
data_seen value = option_map (λ v. view v.now) value

-- the list of a vector
abbrev pub vector_list : {A E : Type 0} → Result (Vec A Global) E → Result (List A) E
vector_list (Ok v) = Ok v.items
vector_list (Err c) = Err c

-- what was read is the value, and its faults are added; or memory was refused
abbrev pub Reads : {A E : Type 0} → Read A → KeptView → KeptView → Result A E → Type 0
Reads r before after (Ok a) = (a ≡ r.value) × (after ≡ with_all before r.faults)
Reads r before after (Err e) = Unit {0}

-- What is kept of the faults of a table.

-- an element with the first of what is wrong, and how much it is
abbrev pub kept_element : ℕ → ElementView (List Detail) → ElementView KeptView
kept_element most e = record { id = e.id; frame = e.frame; details = kept most e.details }

-- the top with the first of what is wrong, and how much it is
abbrev pub kept_top : ℕ → TopView (List Detail) → TopView KeptView
kept_top most t = record { entry = t.entry; outside = t.outside; details = kept most t.details }

-- the fault that base_read answers for the first of some
abbrev pub first_fault : Option ℕ → List Detail → Option BaseFault
first_fault frame [] = None
first_fault frame (d ∷ ds) = Some (fault_in frame (cause_of d))

-- The frames of a text, up to the first that is at fault.

-- the answer is the outcome, or refused memory
abbrev pub FaultOrMemory : {A : Type 0} → Result A BaseFault → Result A BaseFault → Type 0
FaultOrMemory o (Ok a) = o ≡ Ok a
FaultOrMemory o (Err fault) = (fault ≡ top_fault Memory) ⊎ (o ≡ Err fault)

-- the fault is the first of some
abbrev pub IsFirst : List TextFault → BaseFault → Type 0
IsFirst [] fault = ⊥
IsFirst (t ∷ ts) fault = fault ≡ draft_fault t

-- the frame of an element that has no fault, or its first fault
abbrev pub IsFrame : ℕ → ElementView (List Detail) → Result (Option Frame) BaseFault → Type 0
IsFrame i e (Ok frame) = (e.details ≡ []) × (frame ≡ e.frame)
IsFrame i e (Err fault) = (fault ≡ top_fault Memory) ⊎ IsFirst (element_faults i e) fault

-- the frames of elements that have no fault, or the first fault
abbrev pub AreListed : Items → Result (List Frame) BaseFault → Type 0
AreListed ds (Ok frames) = (elements_faults 0 ds ≡ []) × (frames ≡ map framed (elements_placed 0 ds))
AreListed ds (Err fault) = (fault ≡ top_fault Memory) ⊎ IsFirst (elements_faults 0 ds) fault
