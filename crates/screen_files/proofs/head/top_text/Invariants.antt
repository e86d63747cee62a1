use Rattle.std.proofs.Common.{◌≡◌, ◌++◌, drop, length, map, take}
use Rattle.screen_files.specs.Heads.{spaced}
use Rattle.screen_files.proofs.head.top_text.Given as goal

-- the codes so far are changed
abbrev pub invariant-loop-code : goal.invariant-loop-code
invariant-loop-code l = record {
  rest : take l.code-index l.code-items ++ map spaced (drop l.code-index l.code-items) ≡ map spaced (take 40 l.codes);
  size : length l.code-items ≡ 40;
}
