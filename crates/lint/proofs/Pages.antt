-- The pages of `outside`, one element at a time.
use Rattle.std.proofs.Common.{◌≡◌, ◌∙◌, ◌≤◌, ℕ, suc, ◌+◌, ◌-◌, ap, cond, Bool, true, false, Option, None, Some, refl, arith}
use Rattle.std.specs.Option.{option_or}
use Rattle.lint.specs.Tables.{TableView}
use Rattle.lint.specs.Outside.{element_if, page_from}

pub none_yet : (t : TableView) (page k : ℕ) → page_from t page 0 k ≡ None
unfolding page_from
none_yet t page k = refl

pub one_more : (t : TableView) (page n k : ℕ) → page_from t page (suc n) k ≡ option_or (element_if t page k) (page_from t page n (k + 1))
unfolding page_from
one_more t page n k = refl

-- the element of an index comes before those after it
pub one_before : (t : TableView) (page most j k : ℕ) → j + 1 ≡ k → k ≤ most
    → page_from t page (most - j) j ≡ option_or (element_if t page j) (page_from t page (most - k) k)
one_before t page most j k next below =
    let left : most - j ≡ suc (most - k) = omega (arith, next, below) in
    ap (λ n. page_from t page n j) left ∙ one_more t page (most - k) j
    ∙ ap (λ i. option_or (element_if t page j) (page_from t page (most - k) i)) next

pub noted : {X : Type 0} (b : Bool) (x : X) (old new : Option X) → new ≡ cond b (Some x) old → new ≡ option_or (cond b (Some x) None) old
noted true x old new is = is
noted false x old new is = is
