use Rattle.std.proofs.Common.{◌≡◌, List, map, take}
use Rattle.toml_places.specs.Places.{Mark}
use Rattle.lint.specs.Loops.{KnowsTables}
use Rattle.lint.specs.FrameLines.{lined}
use Rattle.lint.proofs.lines.lined.Given as goal

-- the first frames have their lines
abbrev pub invariant-loop-id : goal.invariant-loop-id
invariant-loop-id l = (ms : List Mark) → KnowsTables ms l.tables → l.lines ≡ l.tables.text.now
    → l.pairs.items ≡ map (lined l.tables.text.now ms) (take l.id-index l.frames)
