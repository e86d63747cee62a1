use Rattle.std.proofs.Common.{◌≡◌, List, map, take}
use Rattle.toml_places.specs.Places.{Mark}
use Rattle.lint.specs.Loops.{KnowsTables}
use Rattle.lint.specs.Pictures.{placed_picture}
use Rattle.lint.proofs.pictures.placed_pictures.Given as goal

-- the first frames are placed
abbrev pub invariant-loop-listed : goal.invariant-loop-listed
invariant-loop-listed l = (ms : List Mark) → KnowsTables ms l.tables → l.pairs.items ≡ map (placed_picture l.tables.text.now ms) (take l.listed-index l.frames)
