use Rattle.std.proofs.Common.{◌≡◌, drop}
use Rattle.std.specs.Prelude.{option_map}
use Rattle.near_words.specs.Near.{found_after, nearest}
use Rattle.explain.specs.Words.{lower}
use Rattle.explain.specs.Loops.{texts_of}
use Rattle.explain.proofs.mistyped.nearest_among.Given as goal

-- what is found, and the names that are left, lead to the nearest of all
abbrev pub invariant-loop-name : goal.invariant-loop-name
invariant-loop-name l =
    found_after lower l.search (option_map (λ name. name.now) l.found) (texts_of (drop l.name-index l.names))
    ≡ nearest lower (lower l.fn.word) (texts_of l.names)
