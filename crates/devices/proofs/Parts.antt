-- A text that is written part by part.
use Rattle.std.proofs.Common.{◌≡◌, ◌≤◌, ◌+◌, ◌-◌, ℕ, List, ◌++◌, length, take, drop, arith, sym, length-drop}
use Rattle.std.proofs.Math.Seq.{take-add}
use Rattle.std.proofs.lemmas.List.{take_all}

-- what was written, and the first n bytes of the rest
pub first_and_more : (bs : List ℕ) (w n : ℕ) → w ≤ length bs → take w bs ++ take n (take (length bs - w) (drop w bs)) ≡ take (w + n) bs
first_and_more bs w n within =
    let rest : take (length bs - w) (drop w bs) ≡ drop w bs = take_all (length bs - w) (drop w bs) (omega (arith, length-drop w bs)) in
    rw rest (sym (take-add w n bs))
