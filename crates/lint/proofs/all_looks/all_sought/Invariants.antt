use Rattle.std.proofs.Common.{◌≡◌, take}
use Rattle.lint.specs.AllLooks as spec
use Rattle.lint.proofs.all_looks.all_sought.Given as goal

abbrev pub invariant-loop-frame : goal.invariant-loop-frame
invariant-loop-frame l = l.ids.items ≡ spec.all_sought (take l.frame-index l.frames)
