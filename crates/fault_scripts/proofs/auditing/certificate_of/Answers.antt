use Rattle.std.proofs.Common.{rules}
use Rattle.std.specs.List.Sorted.{IsSortedByKey}
use Rattle.page_ids.specs.Ids.{id_cmp}
use Rattle.frame_records.proofs.SortedKeys.{by_key}
use Rattle.cert_table.specs.declared.row.Row.{Row}
use Rattle.fault_scripts.proofs.auditing.certificate_of.Goals as goal

pub of-requires : goal.of-requires
of-requires c =
    let rows = c.sort_unstable_by_key.new.self.items in
    let sorted = by_key (λ (r : Row). r.id) (λ key. IsSortedByKey key id_cmp rows) c.sort_unstable_by_key.ensures.sorted (λ a r q k. search rules) in
    c.requires rows (record { same = c.sort_unstable_by_key.ensures.permutation; in_order = sorted })
