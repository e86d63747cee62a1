use Rattle.std.proofs.Common.{◌≡◌, drop}
use Rattle.screen_files.specs.Settling.{cells_hold}
use Rattle.screen_files.proofs.settling.cells_hold.Given as goal

-- the cells that are left decide
abbrev pub invariant-loop-at : goal.invariant-loop-at
invariant-loop-at l = cells_hold (drop l.at l.cells) (drop l.at l.others) ≡ cells_hold l.cells l.others
