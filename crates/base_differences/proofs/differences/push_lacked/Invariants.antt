use Rattle.std.proofs.Common.{◌≡◌, ◌++◌, drop}
use Rattle.base_differences.specs.Differences.{ids_lacked}
use Rattle.base_differences.proofs.differences.push_lacked.Given as goal

abbrev pub invariant-loop-frame : goal.invariant-loop-frame
invariant-loop-frame l = l.initial.ids.items ++ ids_lacked l.base l.frames ≡ l.ids.items ++ ids_lacked l.base (drop l.frame-index l.frames)
