use Rattle.std.proofs.Common.{◌≡◌, ◌++◌, IsUtf8, chars}
use Rattle.std.specs.Str.{encode_utf8_all}
use Rattle.std.specs.Str.Iter.{chars_rest}
use Rattle.std.specs.String.{string_bytes}
use Rattle.lint_words.specs.Lines.{shown_chars}
use Rattle.lint_words.proofs.line.shown.Given as goal

-- what has been appended, and what the rest adds
abbrev pub invariant-loop-c : goal.invariant-loop-c
invariant-loop-c l = record {
  utf8 : IsUtf8 (chars_rest l.c-iterator);
  so_far : string_bytes l.out ++ encode_utf8_all (shown_chars (chars (chars_rest l.c-iterator))) ≡
      encode_utf8_all (shown_chars (chars l.fn.text));
}
