use Rattle.std.proofs.Common.{◌-◌, length}
use Rattle.page_ids.proofs.KeyTexts.{HasRead}
use Rattle.page_ids.proofs.key_text.keys_read.Given as goal

-- what is read is made of the words of the keys so far
abbrev pub invariant-loop-at : goal.invariant-loop-at
invariant-loop-at l = HasRead l.bytes l.at l.keys.items

abbrev pub decreases-loop-at : goal.decreases-loop-at
decreases-loop-at l = length l.bytes - l.at
