use Rattle.std.proofs.Common.{◌≡◌, drop}
use Rattle.screen_forms.specs.Sheets.{byte_from}
use Rattle.screen_forms.proofs.sheets.first_place.Given as goal

-- it isn't before this place
abbrev pub invariant-loop-at : goal.invariant-loop-at
invariant-loop-at l = byte_from l.byte l.at (drop l.at l.text) ≡ byte_from l.byte 0 l.text
