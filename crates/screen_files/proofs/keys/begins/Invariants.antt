use Rattle.std.proofs.Common.{◌≡◌, drop, false}
use Rattle.screen_files.specs.Keys.{word_begins}
use Rattle.screen_files.proofs.keys.begins.Given as goal

-- what is left of the row decides
abbrev pub invariant-loop-look : goal.invariant-loop-look
invariant-loop-look l = word_begins l.first l.in_word (drop l.look-index l.row) ≡ word_begins l.first false l.row
