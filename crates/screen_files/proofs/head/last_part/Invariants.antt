use Rattle.std.proofs.Common.{◌≡◌, length}
use Rattle.page_ids.specs.Parts.{parts_of}
use Rattle.screen_files.specs.Heads.{last_part}
use Rattle.screen_files.proofs.head.last_part.Given as goal

-- the last part is in what is left
abbrev pub invariant-loop-more : goal.invariant-loop-more
invariant-loop-more l = last_part (parts_of l.separator l.rest) ≡ last_part (parts_of l.separator l.text)

abbrev pub decreases-loop-more : goal.decreases-loop-more
decreases-loop-more l = length l.rest
