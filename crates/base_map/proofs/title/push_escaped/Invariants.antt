use Rattle.std.proofs.Common.{◌≡◌, ◌++◌, drop}
use Rattle.base_map.specs.Nodes.{dot_escaped}
use Rattle.base_map.proofs.title.push_escaped.Given as goal

abbrev pub invariant-loop-code : goal.invariant-loop-code
invariant-loop-code l = l.out.items ++ dot_escaped (drop l.code-index l.text) ≡ l.fn.out.items ++ dot_escaped l.text
