use Rattle.std.proofs.Common.{◌≡◌}
use Rattle.std.specs.List.{AllAdjacentBelow}
use Rattle.std.specs.declared.cmp.Ordering.TheVariants.{Less}
use Rattle.page_ids.specs.Ids.{id_cmp}
use Rattle.frame_records.proofs.build.shared_id.Given as goal

-- ids ascend so far
abbrev pub invariant-loop-i : goal.invariant-loop-i
invariant-loop-i l = AllAdjacentBelow (λ f g. id_cmp f.id g.id ≡ Less) l.frames l.i
