use Rattle.std.proofs.Common.{◌≡◌}
use Rattle.toml.specs.View.{members_view}
use Rattle.policy_text.specs.Policies.{unknown_key}
use Rattle.policy_text.proofs.keys.unknown_key.Given as goal

abbrev pub invariant-loop-key : goal.invariant-loop-key
invariant-loop-key l = unknown_key (members_view l.table.entries) ≡ unknown_key (members_view l.key-iterator)
