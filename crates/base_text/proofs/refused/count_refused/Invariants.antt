use Rattle.std.proofs.Common.{◌≡◌, ◌+◌, ◌≤◌, IsUtf8, chars, length}
use Rattle.std.specs.Str.Iter.{chars_rest}
use Rattle.base_text.specs.Rows.{refused}
use Rattle.base_text.proofs.refused.count_refused.Given as goal

abbrev pub invariant-loop-code : goal.invariant-loop-code
invariant-loop-code l = record {
  utf8 : IsUtf8 (chars_rest l.code-iterator);
  room : l.count + length (chars_rest l.code-iterator) ≤ length l.fn.text;
  so_far : l.count + length (refused l.holder 1 (chars (chars_rest l.code-iterator))) ≡ length (refused l.holder 1 (chars l.fn.text));
}
