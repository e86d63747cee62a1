use Rattle.std.proofs.Common.{◌≡◌, ◌++◌, IsUtf8, chars}
use Rattle.std.specs.List.{flat_map}
use Rattle.std.specs.Str.Iter.{chars_rest}
use Rattle.finding_forms.specs.FullForm.{drawn_char, drawn_chars}
use Rattle.finding_forms.proofs.drawing.push_drawn.Given as goal

-- what has been appended, and what the rest adds
abbrev pub invariant-chars : goal.invariant-chars
invariant-chars l = record {
  utf8 : IsUtf8 (chars_rest l.c-iterator);
  so_far : l.out.items ++ flat_map (drawn_char l.drawing) (chars (chars_rest l.c-iterator)) ≡ l.initial.out.items ++ drawn_chars l.drawing l.bytes;
}
