-- Edits that a sort put in order.
use Rattle.std.proofs.Common.{Ok, Err, ℕ}
use Rattle.std.specs.Prelude.{List, Result, OnOk, IsPermutation}
use Rattle.std.specs.Ordering.{nat_cmp}
use Rattle.std.specs.List.Sorted.{IsSortedByKey, IsStableByKey}
use Rattle.text_edits.specs.Edits.{ReplacementView}
use Rattle.frame_edits.specs.Merging.{AreEditsInOrder}

abbrev pub begin_of : ReplacementView → ℕ
begin_of r = r.begin

pub ordered : {A E Sorted : Type 0} (edits found : List ReplacementView) → (Sorted → IsSortedByKey begin_of nat_cmp found) → (r : Result A E)
    → IsPermutation edits found → IsStableByKey begin_of nat_cmp edits found → OnOk r Sorted → OnOk r (AreEditsInOrder edits found)
ordered edits found by (Ok a) same stable sorted = record { same = same; ascend = by sorted; stable = stable }
ordered edits found by (Err e) same stable sorted = tt
