-- A discovered frame, and the entry frame among all.
use Rattle.std.specs.Prelude.{◌≡◌, ℕ, List, Option, Some, None, option_map}
use Rattle.page_ids.specs.Ids.{Id}
use Rattle.page_ids.specs.Ways.{way_at, way_key}
use Rattle.frame_records.specs.Bases.{BaseView}
use Rattle.frame_records.specs.Seek.{entry_of}
use Rattle.finder.specs.declared.found.Discovered.{Discovered}
use Rattle.finder.specs.Survey.{id_at}
use Rattle.finder.specs.Finds.{EntryIsFound}

-- a listed frame, with its rank, and with its parent and the key that led from it
abbrev pub discovered_of : Id → Option ℕ → Option (ℕ × ℕ) → Discovered
discovered_of id rank origin = record { id = id; rank = rank; parent = option_map (λ o. o.0) origin; key = option_map (λ o. way_key (way_at o.1)) origin }

-- the node of the entry frame, if it is found
abbrev pub IsEntryNode : List ℕ → BaseView → Option ℕ → Type 0
IsEntryNode caller base (Some node) = EntryIsFound caller base × (id_at base.frames node ≡ Some (entry_of base))
IsEntryNode caller base None = EntryIsFound caller base → ⊥
