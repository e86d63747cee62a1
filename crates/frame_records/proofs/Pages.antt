-- Outside pages, which ascend.
use Rattle.std.proofs.Common.{◌≡◌, ℕ, ◌+◌, ◌<◌, ◌≤◌, true, false, List, length, get_or, Some, None, sym, ap, ◌∙◌, arith, inl, inr}
use Rattle.std.specs.Prelude.{find, Contains}
use Rattle.std.specs.List.Sorted.{IsStrictlyIncreasing}
use Rattle.std.proofs.lemmas.Bool.{cases_lt}
use Rattle.std.proofs.lemmas.List.{get_or_default}
use Rattle.std.proofs.lemmas.List.Sorted.{IsNonDecreasingBy-from_all_adjacent}
use Rattle.frame_records.specs.declared.frame.Frame.{Frame}
use Rattle.frame_records.specs.Bases.{has_page, IsLeastInside, NoneInside}
use Rattle.frame_records.proofs.Finds.{first_found, none_found}

-- pages don't fall
pub rise : (pages : List ℕ) → IsStrictlyIncreasing pages → (i j : ℕ) (d : ℕ) → i ≤ j → j < length pages → get_or pages i d ≤ get_or pages j d
rise pages up = IsNonDecreasingBy-from_all_adjacent (λ p. p) pages (λ k d lt.
    let here : get_or pages k d ≡ get_or pages k 0 = get_or_default pages k d 0 (omega arith) in
    let next : get_or pages (k + 1) d ≡ get_or pages (k + 1) 0 = get_or_default pages (k + 1) d 0 lt in
    omega (arith, up k lt, here, next))

contains_at : (pages : List ℕ) (page : ℕ) → Contains pages page → (k : ℕ) × (k < length pages) × ((d : ℕ) → get_or pages k d ≡ page)
contains_at pages page h = (h.0, h.1, λ d. get_or_default pages h.0 d page h.1 ∙ h.2)

-- the first page of ascending ones that has a frame is the smallest
pub least_inside : (pages : List ℕ) (frames : List Frame) (page : ℕ) → IsStrictlyIncreasing pages → find (has_page frames) pages ≡ Some page → IsLeastInside pages frames page
least_inside pages frames page up e =
    let p = first_found (has_page frames) pages page e in
    let first = p.1 in
    record {
      listed = (p.0, first.within, first.at page);
      inside = first.passes;
      least = λ q has inside.
          let c = contains_at pages q has in
          elim (cases_lt c.0 p.0) [
            | inl before ↦ let clash : true ≡ false = sym inside ∙ ap (has_page frames) (sym (c.2 0)) ∙ first.before c.0 0 before in absurd cc
            | inr from ↦ omega (arith, c.2 0, first.at 0, rise pages up p.0 c.0 0 from c.1)
          ];
    }

pub none_inside : (pages : List ℕ) (frames : List Frame) → find (has_page frames) pages ≡ None → NoneInside pages frames
none_inside pages frames e q has = let c = contains_at pages q has in ap (has_page frames) (sym (c.2 0)) ∙ none_found (has_page frames) pages e c.0 0 c.1
