use Rattle.std.proofs.Common.{◌≡◌, None, length}
use Rattle.screen_files.specs.Heads.{last_id, words_between}
use Rattle.screen_files.proofs.head.text_id.Given as goal

-- the id so far, and the words that are left, have the last id
abbrev pub invariant-loop-word : goal.invariant-loop-word
invariant-loop-word l = last_id l.found (words_between l.rest) ≡ last_id None (words_between l.text)

abbrev pub decreases-loop-word : goal.decreases-loop-word
decreases-loop-word l = length l.rest
