use Rattle.std.proofs.Common.{◌≡◌, ◌++◌, replicate}
use Rattle.screens.specs.Writing.{written}
use Rattle.screens.proofs.text.push_after.Given as goal

abbrev pub invariant-loop : goal.invariant-loop
invariant-loop l = l.out.items ≡ l.initial.out.items ++ written l.writing (replicate l.counter 0x20)
