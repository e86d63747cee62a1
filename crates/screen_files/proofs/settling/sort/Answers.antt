use Rattle.std.proofs.Common.{rules}
use Rattle.std.specs.List.Sorted.{IsSortedByKey, IsStableByKey}
use Rattle.page_ids.specs.Ids.{id_cmp}
use Rattle.frame_records.proofs.SortedKeys.{by_key}
use Rattle.screen_files.specs.declared.filed.Filed.{Filed}
use Rattle.screen_files.proofs.settling.sort.Goals as goal

pub returns : goal.returns
returns c = record {
  same = c.sort_by_key.ensures.permutation;
  ascend = by_key (λ (f : Filed). f.frame.id) (λ key. IsSortedByKey key id_cmp c.sort_by_key.new.self.items) c.in_ok-sort_by_key.ensures.sorted (λ a r q k. search rules);
  stable = by_key (λ (f : Filed). f.frame.id) (λ key. IsStableByKey key id_cmp c.args.filed.now.items c.sort_by_key.new.self.items) c.sort_by_key.ensures.stable (λ a r q k. search rules);
}
