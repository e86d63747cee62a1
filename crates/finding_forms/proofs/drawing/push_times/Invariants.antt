use Rattle.std.proofs.Common.{◌≡◌, ◌++◌, replicate}
use Rattle.finding_forms.proofs.drawing.push_times.Given as goal

abbrev pub invariant-times : goal.invariant-times
invariant-times l = l.out.items ≡ l.initial.out.items ++ replicate l._done l.byte
