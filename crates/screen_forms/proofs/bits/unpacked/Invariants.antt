use Rattle.std.proofs.Common.{◌≡◌, ◌++◌, length}
use Rattle.screen_forms.specs.Bits.{unpacked}
use Rattle.screen_forms.proofs.bits.unpacked.Given as goal

-- what is written so far, and then what is left
abbrev pub invariant-loop-left : goal.invariant-loop-left
invariant-loop-left l = l.cells.items ++ unpacked l.left ≡ unpacked l.bytes

abbrev pub decreases-loop-left : goal.decreases-loop-left
decreases-loop-left l = length l.left
