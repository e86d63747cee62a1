use Rattle.line_keys.proofs.Passed.{top_bit_is_dropped}
use Rattle.line_keys.proofs.laws.top_bit_is_dropped.Goals as goal

pub returns : goal.returns
returns c = top_bit_is_dropped
