use Rattle.std.proofs.Common.{ℕ, ◌-◌, ap, ◌∙◌}
use Rattle.abstract_paint.proofs.Masks.{other_lanes}
use Rattle.abstract_paint.proofs.plain.other_mask.Goals as goal

pub returns : goal.returns
returns c = ap (λ (m : ℕ). 4294967295 - m) c.plain_mask.ensures.mask ∙ other_lanes c.args.bytes.now c.told-bytes
