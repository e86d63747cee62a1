use Rattle.std.proofs.Common.{◌≡◌, ◌+◌, [], drop}
use Rattle.toml.specs.View.{items_view}
use Rattle.policy_text.specs.Policies.{policy_groups}
use Rattle.policy_text.proofs.values.groups_of.Given as goal

abbrev pub invariant-loop-i : goal.invariant-loop-i
invariant-loop-i l = policy_groups 1 [] (items_view l.values) ≡ policy_groups (l.i + 1) l.groups (items_view (drop l.i l.values))
