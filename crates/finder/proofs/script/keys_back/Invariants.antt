use Rattle.std.proofs.Common.{◌≡◌, ◌-◌, ◌++◌, length}
use Rattle.finder.specs.Finds.{keys_back}
use Rattle.finder.proofs.script.keys_back.Given as goal

abbrev pub invariant-loop-turn : goal.invariant-loop-turn
invariant-loop-turn l = keys_back l.found (length l.found) l.start ≡ l.keys.items ++ keys_back l.found (length l.found - l.turn) l.index
