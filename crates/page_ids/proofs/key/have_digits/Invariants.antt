use Rattle.std.proofs.Common.{take}
use Rattle.page_ids.specs.Keys.{AreKeys}
use Rattle.page_ids.proofs.key.have_digits.Given as goal

abbrev pub invariant-loop-key : goal.invariant-loop-key
invariant-loop-key l = AreKeys (take l.key-index l.keys)
