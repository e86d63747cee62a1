use Rattle.std.proofs.Common.{◌≡◌, ◌≤◌, ◌+◌, ◌*◌, ◌++◌, drop}
use Rattle.std.specs.Vec.{vec_len, vec_capacity}
use Rattle.page_ids.specs.Keys.{keys_text}
use Rattle.audit_report.proofs.list_lines.push_keys.Given as goal

-- what is written and the words that are left are the whole text, and there was room for them
abbrev pub invariant-loop-key : goal.invariant-loop-key
invariant-loop-key l = record {
  items : l.out.items ++ keys_text (drop l.key-index l.keys) ≡ l.fn.out.items ++ keys_text l.keys;
  len : vec_len l.out ≤ vec_len l.fn.out + 3 * l.key-index;
  capacity : vec_capacity l.fn.out ≤ vec_capacity l.out;
}
