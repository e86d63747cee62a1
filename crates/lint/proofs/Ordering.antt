-- Findings that a sort put in order.
use Rattle.std.proofs.Common.{Ok, Err}
use Rattle.std.specs.Prelude.{List, Result, OnOk, IsPermutation}
use Rattle.std.specs.Ordering.{nat_cmp}
use Rattle.std.specs.List.Sorted.{IsSortedByKey, IsStableByKey}
use Rattle.lint.specs.Findings.{FindingView, AreInOrder}

pub ordered : {A E Sorted : Type 0} (judged found : List FindingView) → (Sorted → IsSortedByKey (λ f. f.span.begin) nat_cmp found) → (r : Result A E)
    → IsPermutation judged found → IsStableByKey (λ f. f.span.begin) nat_cmp judged found → OnOk r Sorted → OnOk r (AreInOrder judged found)
ordered judged found by (Ok a) same stable sorted = record { same = same; places_ascend = by sorted; stable = stable }
ordered judged found by (Err e) same stable sorted = tt
