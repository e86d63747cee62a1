use Rattle.base_map.proofs.EdgeLaws.{edges_are_ways}
use Rattle.base_map.proofs.laws.edges_are_ways.Goals as goal

pub returns : goal.returns
returns c = edges_are_ways
