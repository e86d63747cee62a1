use Rattle.std.proofs.Common.{ℕ, sym, subst, Fits, w32, IsTrue, IsBitSet, EachIndex, ◌↔◌, slice_index}
use Rattle.abstract_paint.specs.Plain.{is_plain}
use Rattle.abstract_paint.proofs.Masks.{plain_fits, plain_bits}
use Rattle.abstract_paint.proofs.plain.plain_mask.Goals as goal

pub overflow_cast-result : goal.overflow_cast-result
overflow_cast-result c = subst (λ (m : ℕ). Fits w32 m) (sym c.lane_mask.ensures) (plain_fits c.args.bytes.now c.told-bytes)

pub returns-clause-bits : goal.returns-clause-bits
returns-clause-bits c =
    let bytes = c.args.bytes.now in
    subst (λ (m : ℕ). EachIndex bytes (λ i. IsBitSet m i ↔ IsTrue (is_plain (slice_index bytes i)))) (sym c.lane_mask.ensures) (plain_bits bytes)
