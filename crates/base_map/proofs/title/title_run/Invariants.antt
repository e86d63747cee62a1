use Rattle.std.proofs.Common.{drop}
use Rattle.base_map.specs.Nodes.{title_run}
use Rattle.base_map.proofs.Runs.{IsRunOf}
use Rattle.base_map.proofs.title.title_run.Given as goal

abbrev pub invariant-loop-byte : goal.invariant-loop-byte
invariant-loop-byte l = IsRunOf l.run.items l.is_escaped (drop l.byte-index l.body) (title_run l.body)
