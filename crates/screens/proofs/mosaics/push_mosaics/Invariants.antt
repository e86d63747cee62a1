use Rattle.std.proofs.Common.{◌≡◌, ◌+◌, ◌*◌, ◌++◌, drop}
use Rattle.screens.specs.Mosaics.{mosaics_path}
use Rattle.screens.proofs.mosaics.push_mosaics.Given as goal

abbrev pub invariant-loop-look : goal.invariant-loop-look
invariant-loop-look l = record {
  rest : l.out.items ++ mosaics_path l.x l.y (drop l.look-index l.cells) ≡ l.fn.out.items ++ mosaics_path l.fn.x l.y l.cells;
  place : l.x ≡ l.fn.x + 12 * l.look-index;
}
