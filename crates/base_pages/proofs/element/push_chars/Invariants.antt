use Rattle.std.proofs.Common.{◌≡◌, ◌++◌, IsUtf8, chars}
use Rattle.std.specs.Str.Iter.{chars_rest}
use Rattle.screens.specs.declared.writing.Writing.TheVariants.{Markup}
use Rattle.screens.specs.Writing.{written}
use Rattle.base_pages.proofs.element.push_chars.Given as goal

-- what has been appended, and what the rest adds
abbrev pub invariant-loop-c : goal.invariant-loop-c
invariant-loop-c l = record {
  utf8 : IsUtf8 (chars_rest l.c-iterator);
  so_far : l.out.items ++ written Markup (chars (chars_rest l.c-iterator)) ≡ l.fn.out.items ++ written Markup (chars l.fn.text);
}
