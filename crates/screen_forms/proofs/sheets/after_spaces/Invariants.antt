use Rattle.std.proofs.Common.{◌≡◌, length}
use Rattle.screen_forms.specs.Sheets.{after_spaces}
use Rattle.screen_forms.proofs.sheets.after_spaces.Given as goal

-- only spaces come before what is left
abbrev pub invariant-loop-byte : goal.invariant-loop-byte
invariant-loop-byte l = after_spaces l.left ≡ after_spaces l.text

abbrev pub decreases-loop-byte : goal.decreases-loop-byte
decreases-loop-byte l = length l.left
