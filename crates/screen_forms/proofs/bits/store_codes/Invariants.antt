use Rattle.std.proofs.Common.{◌≡◌, ◌++◌, drop, length, map, take}
use Rattle.screen_forms.specs.Bits.{stored_code}
use Rattle.screen_forms.proofs.bits.store_codes.Given as goal

-- the cells so far are changed
abbrev pub invariant-loop-cell : goal.invariant-loop-cell
invariant-loop-cell l = record {
  rest : take l.cell-index l.cells ++ map stored_code (drop l.cell-index l.cells) ≡ map stored_code l.fn.cells;
  size : length l.cells ≡ length l.fn.cells;
}
