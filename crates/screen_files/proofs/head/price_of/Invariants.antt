use Rattle.std.proofs.Common.{◌≡◌, drop}
use Rattle.screen_files.specs.Heads.{price_from}
use Rattle.screen_files.proofs.head.price_of.Given as goal

-- no price begins before this column
abbrev pub invariant-loop-column : goal.invariant-loop-column
invariant-loop-column l = price_from l.column (drop l.column l.text) ≡ price_from 0 l.text
