-- Values of ids.
use Rattle.std.specs.Prelude.{◌≡◌, if◌then◌else◌, List, [], ◌∷◌, Option, Some, None}
use Rattle.std.specs.Option.{option_or}
use Rattle.indexmap.specs.IndexMap.{get}
use Rattle.page_ids.specs.Ids.{Id, id_eq}
use Rattle.lint.specs.declared.lookup.Lookup.{Lookup}

-- the last value that is listed with an id
abbrev pub value_of : {V : Type 0} → List (Id × V) → Id → Option V
value_of [] id = None
value_of (p ∷ ps) id = option_or (value_of ps id) (if id_eq p.0 id then Some p.1 else None)

-- a lookup knows these values
abbrev pub KnowsValues : {V : Type 0} → List (Id × V) → Lookup V → Type 0
KnowsValues pairs known = (id : Id) → get id_eq known.map id ≡ value_of pairs id
