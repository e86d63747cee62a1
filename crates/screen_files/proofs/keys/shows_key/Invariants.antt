use Rattle.std.proofs.Common.{◌≡◌, ◌+◌, drop, false, take}
use Rattle.std.specs.List.{list_any}
use Rattle.screen_files.specs.Keys.{word_begins}
use Rattle.screen_files.proofs.keys.shows_key.Given as goal

-- the rows that are left decide
abbrev pub invariant-loop-row : goal.invariant-loop-row
invariant-loop-row l =
    list_any (word_begins (48 + l.fn.digit) false) (drop l.row-index l.row-items)
    ≡ list_any (word_begins (48 + l.fn.digit) false) (take 22 (drop 1 l.looks))
