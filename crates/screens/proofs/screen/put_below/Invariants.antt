use Rattle.std.proofs.Common.{◌≡◌, ◌++◌, take, drop, length, map}
use Rattle.screens.specs.Looks.{below}
use Rattle.screens.proofs.screen.put_below.Given as goal

abbrev pub invariant-loop-look : goal.invariant-loop-look
invariant-loop-look l = record {
  rest : take l.look-index l.looks ++ map below (drop l.look-index l.looks) ≡ map below l.fn.looks;
  size : length l.looks ≡ length l.fn.looks;
}
