use Rattle.std.proofs.Common.{rules}
use Rattle.std.specs.List.Sorted.{IsSortedByKey}
use Rattle.frame_records.proofs.SortedKeys.{by_key}
use Rattle.base_text.specs.WholeFaults.{order_of, place_cmp}
use Rattle.base_text.proofs.whole.sort_frames.Goals as goal

pub returns : goal.returns
returns c = record {
  same = c.sort_unstable_by_key.ensures.permutation;
  rise = by_key order_of (λ key. IsSortedByKey key place_cmp c.sort_unstable_by_key.new.self.items) c.sort_unstable_by_key.ensures.sorted (λ a r q k. search rules);
}
