use Rattle.std.proofs.Common.{◌≡◌, take, All, false}
use Rattle.std.specs.Prelude.{◌==◌}
use Rattle.page_ids.proofs.parts.cut.Given as goal

abbrev pub invariant-loop-i : goal.invariant-loop-i
invariant-loop-i l = All (λ b. (b == l.separator) ≡ false) (take l.i l.text)
