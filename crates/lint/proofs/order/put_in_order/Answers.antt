use Rattle.std.proofs.Common.{rules, ℕ}
use Rattle.std.specs.Ordering.{nat_cmp}
use Rattle.std.specs.List.Sorted.{IsSortedByKey, IsStableByKey}
use Rattle.frame_records.proofs.SortedKeys.{by_key}
use Rattle.lint.specs.Findings.{FindingView}
use Rattle.lint.proofs.Ordering.{ordered}
use Rattle.lint.proofs.order.put_in_order.Goals as goal

pub returns : goal.returns
returns c =
    let judged = c.args.findings.now.items in
    let found = c.sort_by_key.new.self.items in
    let key : FindingView → ℕ = λ f. f.span.begin in
    let stable = by_key key (λ k. IsStableByKey k nat_cmp judged found) c.sort_by_key.ensures.stable (λ a r q k. search rules) in
    ordered judged found (λ up. by_key key (λ k. IsSortedByKey k nat_cmp found) up (λ a r q k. search rules)) c.sort_by_key.result
    c.sort_by_key.ensures.permutation stable c.sort_by_key.ensures.sorted
