use Rattle.std.proofs.Common.{◌≡◌, take}
use Rattle.frame_records.proofs.groups.Groups.copy.Given as goal

abbrev pub invariant-loop-number : goal.invariant-loop-number
invariant-loop-number l = l.numbers.items ≡ take l.number-index l.held
