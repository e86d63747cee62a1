use Rattle.std.proofs.Common.{◌≡◌, ◌≤◌, ◌++◌, ◌*◌, ◌-◌}
use Rattle.arrayvec.specs.ArrayVec.{array_vec_len}
use Rattle.screen_files.specs.Texts.{keys_from, shown_keys_text}
use Rattle.screen_files.proofs.texts.keys_text.Given as goal

-- the keys so far, and those of the digits that are left, are all
abbrev pub invariant-loop-digit : goal.invariant-loop-digit
invariant-loop-digit l = record {
  rest : l.text.items ++ keys_from l.looks (10 - l.digit) l.digit ≡ shown_keys_text l.looks;
  room : array_vec_len l.text ≤ 2 * l.digit;
}
