use Rattle.std.proofs.Common.{◌≡◌, drop}
use Rattle.std.specs.Option.{option_or}
use Rattle.indexmap.specs.IndexMap.{get}
use Rattle.page_ids.specs.Ids.{Id, id_eq}
use Rattle.lint.specs.Lookups.{value_of}
use Rattle.lint.proofs.lookup.Lookup.of.Given as goal

-- each id has the last of its numbers: one that is left, or else the map's
abbrev pub invariant-loop-id : goal.invariant-loop-id
invariant-loop-id g l = (id : Id) → value_of l.pairs id ≡ option_or (value_of (drop l.id-index l.pairs) id) (get id_eq l.map id)
