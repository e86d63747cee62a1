use Rattle.std.proofs.Common.{◌≡◌, ◌++◌, take, drop, length, map}
use Rattle.base_pages.specs.Loops.{revealed_code}
use Rattle.base_pages.proofs.screen.reveal.Given as goal

abbrev pub invariant-loop-code : goal.invariant-loop-code
invariant-loop-code l = record {
  rest : take l.code-index l.codes ++ map revealed_code (drop l.code-index l.codes) ≡ map revealed_code l.fn.codes;
  size : length l.codes ≡ length l.fn.codes;
}
