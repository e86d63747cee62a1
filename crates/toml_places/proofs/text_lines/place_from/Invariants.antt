use Rattle.std.proofs.Common.{◌≡◌, take}
use Rattle.toml_places.specs.Skips.{line_after, column_after}
use Rattle.toml_places.proofs.text_lines.place_from.Given as goal

abbrev pub invariant-loop-i : goal.invariant-loop-i
invariant-loop-i l = (l.line ≡ line_after (take l.i l.text)) × (l.column ≡ column_after (take l.i l.text))
