use Rattle.std.proofs.Common.{◌≡◌, take}
use Rattle.lint.specs.AllLooks as spec
use Rattle.lint.proofs.all_looks.looks_of.Given as goal

abbrev pub invariant-loop-frame : goal.invariant-loop-frame
invariant-loop-frame l = l.looks.items ≡ spec.looks_of (take l.frame-index l.frames)
