use Rattle.std.proofs.Common.{◌≡◌, ◌+◌, ◌≤◌, IsUtf8, chars, length}
use Rattle.std.specs.Str.Iter.{chars_rest}
use Rattle.base_text.specs.Details.{with_all}
use Rattle.base_text.specs.Rows.{refused, refused_faults, code_faults}
use Rattle.base_text.proofs.refused.add_refused.Given as goal

abbrev pub invariant-loop-code : goal.invariant-loop-code
invariant-loop-code l = record {
  utf8 : IsUtf8 (chars_rest l.code-iterator);
  number : l.number + length (chars_rest l.code-iterator) ≤ length l.text;
  left : l.left ≤ 10;
  count : l.count + l.left ≡ length (refused l.holder (l.number + 1) (chars (chars_rest l.code-iterator))) + 10;
  so_far : with_all l.initial.details (code_faults l.holder (chars l.text))
      ≡ with_all l.details (refused_faults l.holder l.left (refused l.holder (l.number + 1) (chars (chars_rest l.code-iterator))));
}
