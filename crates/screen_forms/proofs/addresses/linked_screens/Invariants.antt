use Rattle.std.proofs.Common.{◌≡◌, ◌≤◌, ◌+◌, length}
use Rattle.page_ids.specs.Parts.{parts_of}
use Rattle.screen_forms.specs.Addresses.{lines_screens, linked_screens}
use Rattle.screen_forms.specs.Loops.{after_screens}
use Rattle.screen_forms.proofs.addresses.linked_screens.Given as goal

-- the screens so far, then those of the lines that are left, are all of them; there are no more lines than bytes
abbrev pub invariant-loop-text : goal.invariant-loop-text
invariant-loop-text l = record {
  all : after_screens l.screens.items (lines_screens l.line (parts_of 10 l.left)) ≡ linked_screens l.text;
  few : l.line + length l.left ≤ length l.text + 1;
}

abbrev pub decreases-loop-text : goal.decreases-loop-text
decreases-loop-text l = length l.left
