use Rattle.std.proofs.Common.{◌≡◌, ◌++◌, IsUtf8, chars}
use Rattle.std.specs.Str.Iter.{chars_rest}
use Rattle.lint_words.specs.Pieces.{escaped_up_to}
use Rattle.lint_words.proofs.pieces.push_beginning.Given as goal

-- what has been appended, and what the rest adds
abbrev pub invariant-loop-c : goal.invariant-loop-c
invariant-loop-c l = record {
  utf8 : IsUtf8 (chars_rest l.c-iterator);
  so_far : l.out.items ++ escaped_up_to l.left (chars (chars_rest l.c-iterator)) ≡
      l.fn.out.items ++ escaped_up_to 40 (chars l.fn.text);
}
