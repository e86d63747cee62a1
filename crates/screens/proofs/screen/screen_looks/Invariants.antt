use Rattle.std.proofs.Common.{◌≡◌, take, length, map}
use Rattle.std.specs.List.{range_with_len}
use Rattle.screens.specs.Looks.{is_covered, looks_at}
use Rattle.screens.proofs.screen.screen_looks.Given as goal

abbrev pub invariant-loop-row : goal.invariant-loop-row
invariant-loop-row l = record {
  done : take l.row l.rows ≡ map (looks_at l.cells) (range_with_len 0 l.row);
  size : length l.rows ≡ 24;
  covered : l.covered ≡ is_covered l.cells l.row;
}
