use Rattle.std.proofs.Common.{◌≡◌, List, map, take}
use Rattle.page_ids.specs.Ids.{Id}
use Rattle.lint.specs.declared.pictures.PicturePlace.{PicturePlace}
use Rattle.lint.specs.Lookups.{KnowsValues, value_of}
use Rattle.lint.proofs.pictures.places_among.Given as goal

-- the first ids are sought
abbrev pub invariant-loop-id : goal.invariant-loop-id
invariant-loop-id l = (pairs : List (Id × PicturePlace)) → KnowsValues pairs l.known → l.places.items ≡ map (value_of pairs) (take l.id-index l.ids)
