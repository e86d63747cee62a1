use Rattle.std.proofs.Common.{◌≡◌, ◌++◌, ◌≤◌, drop, length, option_map}
use Rattle.text_edits.specs.Edits.{edited, edited_from}
use Rattle.text_edits.proofs.replacing.edited.Given as goal

-- what is made so far, and then what is made from the place on
abbrev pub invariant-loop-replacement : goal.invariant-loop-replacement
invariant-loop-replacement l =
    (l.at ≤ length l.text)
    × (option_map (λ rest. l.new.items ++ rest) (edited_from l.text l.at (drop l.replacement-index l.replacements)) ≡ edited l.text l.replacements)
