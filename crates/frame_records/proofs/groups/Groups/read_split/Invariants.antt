use Rattle.std.proofs.Common.{◌≡◌, length}
use Rattle.page_ids.specs.Parts.{parts_of}
use Rattle.frame_records.specs.Groups.{words_in, groups_in}
use Rattle.frame_records.proofs.groups.Groups.read_split.Given as goal

abbrev pub invariant-loop-word : goal.invariant-loop-word
invariant-loop-word l = words_in l.groups (parts_of l.separator l.rest) ≡ groups_in l.separator l.text

abbrev pub decreases-loop-word : goal.decreases-loop-word
decreases-loop-word l = length l.rest
