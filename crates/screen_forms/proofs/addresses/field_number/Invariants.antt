use Rattle.std.proofs.Common.{◌≡◌, length}
use Rattle.page_ids.specs.Parts.{parts_of}
use Rattle.screen_forms.specs.Addresses.{field_number, number_among}
use Rattle.screen_forms.proofs.addresses.field_number.Given as goal

-- the first number is in what is left
abbrev pub invariant-loop-field : goal.invariant-loop-field
invariant-loop-field l = number_among (parts_of 58 l.left) ≡ field_number l.text

abbrev pub decreases-loop-field : goal.decreases-loop-field
decreases-loop-field l = length l.left
