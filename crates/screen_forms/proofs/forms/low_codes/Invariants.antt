use Rattle.std.proofs.Common.{◌≡◌, ◌++◌, drop, length, map, take}
use Rattle.screen_forms.specs.Bits.{low_bits}
use Rattle.screen_forms.proofs.forms.low_codes.Given as goal

-- the codes so far are changed
abbrev pub invariant-loop-code : goal.invariant-loop-code
invariant-loop-code l = record {
  rest : take l.code-index l.code-items ++ map low_bits (drop l.code-index l.code-items) ≡ map low_bits l.codes;
  size : length l.code-items ≡ 960;
}
