use Rattle.std.proofs.Common.{eqb, rules}
use Rattle.std.specs.List.Sorted.{IsSortedByKey}
use Rattle.std.proofs.lemmas.List.Filters.{dedup_is}
use Rattle.page_ids.specs.Ids.{id_cmp}
use Rattle.frame_records.specs.declared.frame.Frame.{Frame}
use Rattle.frame_records.proofs.SortedKeys.{by_key}
use Rattle.frame_records.proofs.Built.{sorted_of}
use Rattle.frame_records.proofs.build.sort.Goals as goal

pub returns : goal.returns
returns c =
    let frames = by_key (λ (f : Frame). f.id) (λ key. IsSortedByKey key id_cmp c.sort_unstable_by_key.new.self.items) c.sort_unstable_by_key.ensures.sorted (λ a r q k. search rules) in
    sorted_of c.args.outside.now.items c.sort_unstable.new.self.items c.dedup.new.self.items c.args.frames.now.items c.sort_unstable_by_key.new.self.items
    c.requires c.sort_unstable.ensures.permutation c.sort_unstable.ensures.sorted
    (dedup_is eqb c.sort_unstable.new.self.items c.dedup.new.self.items c.dedup.ensures.filtered)
    c.sort_unstable_by_key.ensures.permutation frames
