use Rattle.std.proofs.Common.{◌≡◌, ◌+◌, ◌*◌, ◌++◌, drop}
use Rattle.screens.specs.Svg.{letters_path}
use Rattle.screens.proofs.picture.push_letters.Given as goal

abbrev pub invariant-loop-look : goal.invariant-loop-look
invariant-loop-look l = record {
  rest : l.out.items ++ letters_path l.ink l.x l.y (drop l.look-index l.cells) ≡ l.fn.out.items ++ letters_path l.ink l.fn.x l.y l.cells;
  place : l.x ≡ l.fn.x + 12 * l.look-index;
}
