use Rattle.std.proofs.Common.{◌≡◌, ◌≤◌, ◌-◌, ◌++◌, length}
use Rattle.std.specs.Vec.{vec_len, vec_capacity}
use Rattle.finder.specs.Finds.{keys_back}
use Rattle.audit_report.proofs.script.fill_back.Given as goal

abbrev pub invariant-loop-turn : goal.invariant-loop-turn
invariant-loop-turn l = record {
  items : keys_back l.found (length l.found) l.start ≡ l.keys.items ++ keys_back l.found (length l.found - l.turn) l.index;
  few : vec_len l.keys ≤ l.turn;
  within : l.turn ≤ length l.found;
  capacity : vec_capacity l.keys ≡ vec_capacity l.fn.keys;
}
