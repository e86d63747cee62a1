use Rattle.std.proofs.Common.{◌≡◌, ◌++◌, drop}
use Rattle.std.specs.List.{flat_map}
use Rattle.base_differences.specs.Summaries as spec
use Rattle.base_differences.proofs.summary.push_further_ids.Given as goal

abbrev pub invariant-loop-id : goal.invariant-loop-id
invariant-loop-id l = l.initial.out.items ++ flat_map spec.further_id l.ids ≡ l.out.items ++ flat_map spec.further_id (drop l.id-index l.ids)
