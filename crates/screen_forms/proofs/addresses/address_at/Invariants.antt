use Rattle.std.proofs.Common.{◌≡◌, drop}
use Rattle.screen_forms.specs.Addresses.{mark_from, address_at}
use Rattle.screen_forms.proofs.addresses.address_at.Given as goal

-- none begins before this place
abbrev pub invariant-loop-at : goal.invariant-loop-at
invariant-loop-at l = mark_from l.at (drop l.at l.text) ≡ address_at l.text
