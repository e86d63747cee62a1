use Rattle.std.proofs.Common.{◌≡◌, ◌++◌, drop}
use Rattle.base_differences.specs.Differences.{ids_of_prices}
use Rattle.base_differences.proofs.differences.push_prices.Given as goal

abbrev pub invariant-loop-frame : goal.invariant-loop-frame
invariant-loop-frame l = l.initial.ids.items ++ ids_of_prices l.base l.frames ≡ l.ids.items ++ ids_of_prices l.base (drop l.frame-index l.frames)
