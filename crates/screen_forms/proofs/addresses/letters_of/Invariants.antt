use Rattle.std.proofs.Common.{◌≡◌, drop}
use Rattle.screen_forms.specs.Addresses.{letters_from}
use Rattle.screen_forms.proofs.addresses.letters_of.Given as goal

-- those before this place are letters
abbrev pub invariant-loop-at : goal.invariant-loop-at
invariant-loop-at l = letters_from l.at (drop l.at l.text) ≡ letters_from 0 l.text
