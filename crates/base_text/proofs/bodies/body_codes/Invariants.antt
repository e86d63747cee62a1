use Rattle.std.proofs.Common.{◌≡◌, ◌++◌, IsUtf8, chars}
use Rattle.std.specs.Str.Iter.{chars_rest}
use Rattle.base_text.specs.Rows.{are_bytes}
use Rattle.base_text.proofs.bodies.body_codes.Given as goal

abbrev pub invariant-loop-code : goal.invariant-loop-code
invariant-loop-code l = record {
  utf8 : IsUtf8 (chars_rest l.code-iterator);
  so_far : l.bytes.items ++ chars (chars_rest l.code-iterator) ≡ chars l.fn.text;
  rest : are_bytes (chars (chars_rest l.code-iterator)) ≡ are_bytes (chars l.fn.text);
}
