use Rattle.std.proofs.Common.{◌≡◌, ◌++◌, ◌*◌, drop, length, map, take}
use Rattle.screen_files.specs.Texts.{comment_code}
use Rattle.screen_files.proofs.texts.comment_text.Given as goal

-- the codes so far are changed
abbrev pub invariant-loop-code : goal.invariant-loop-code
invariant-loop-code l = record {
  rest : take l.code-index l.code-items ++ map comment_code (drop l.code-index l.code-items) ≡ map comment_code (take 40 (drop (40 * l.row) l.codes));
  size : length l.code-items ≡ 40;
}
