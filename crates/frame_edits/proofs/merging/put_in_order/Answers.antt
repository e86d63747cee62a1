use Rattle.std.proofs.Common.{rules}
use Rattle.std.specs.Ordering.{nat_cmp}
use Rattle.std.specs.List.Sorted.{IsSortedByKey, IsStableByKey}
use Rattle.frame_records.proofs.SortedKeys.{by_key}
use Rattle.frame_edits.proofs.Ordering.{begin_of, ordered}
use Rattle.frame_edits.proofs.merging.put_in_order.Goals as goal

pub returns : goal.returns
returns c =
    let before = c.args.edits.now.items in
    let after = c.sort_by_key.new.self.items in
    let stable = by_key begin_of (λ k. IsStableByKey k nat_cmp before after) c.sort_by_key.ensures.stable (λ a r q k. search rules) in
    ordered before after (λ up. by_key begin_of (λ k. IsSortedByKey k nat_cmp after) up (λ a r q k. search rules)) c.sort_by_key.result
    c.sort_by_key.ensures.permutation stable c.sort_by_key.ensures.sorted
