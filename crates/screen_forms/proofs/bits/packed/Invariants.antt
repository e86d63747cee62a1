use Rattle.std.proofs.Common.{◌≡◌, ◌++◌, length}
use Rattle.screen_forms.specs.Bits.{packed}
use Rattle.screen_forms.proofs.bits.packed.Given as goal

-- what is written so far, and then what is left
abbrev pub invariant-loop-left : goal.invariant-loop-left
invariant-loop-left l = l.bytes.items ++ packed l.left ≡ packed l.codes

abbrev pub decreases-loop-left : goal.decreases-loop-left
decreases-loop-left l = length l.left
