-- Frames in order of their ids and tables.
use Rattle.std.proofs.Common.{◌≡◌, ℕ, ◌+◌, ◌<◌, false, List, [], ◌∷◌, length, map, ◌==◌, ◌||◌, refl, ap, arith}
use Rattle.std.specs.List.{list_any}
use Rattle.std.specs.Ordering.{nat_cmp, is_lt, ordering_then}
use Rattle.std.specs.List.Sorted.{IsSortedByKey}
use Rattle.std.specs.declared.cmp.Ordering.{Ordering}
use Rattle.std.specs.declared.cmp.Ordering.TheVariants.{Less, Equal, Greater}
use Rattle.std.proofs.Math.ListN.{get_or-map, length-map}
use Rattle.page_ids.specs.Ids.{id_cmp}
use Rattle.frame_records.specs.Bases.{has_page}
use Rattle.base_text.specs.declared.listed.Listed.{Listed}
use Rattle.base_text.specs.Drafts.{framed}
use Rattle.base_text.specs.WholeFaults.{order_of, place_cmp}

first_not_less : (a b : Ordering) → is_lt (ordering_then a b) ≡ false → is_lt a ≡ false
first_not_less Less b e = e
first_not_less Equal b e = refl
first_not_less Greater b e = refl

ids_sorted : (ps : List Listed) → IsSortedByKey order_of place_cmp ps → IsSortedByKey (λ p. p.frame.id) id_cmp ps
ids_sorted ps up k d low lt = first_not_less _ _ (up k d low lt)

pub pages_sorted : (ps : List Listed) → IsSortedByKey order_of place_cmp ps → IsSortedByKey (λ p. p.frame.id.page) nat_cmp ps
pages_sorted ps up k d low lt = first_not_less _ _ (ids_sorted ps up k d low lt)

pub same_page : (ps : List Listed) (page : ℕ) → list_any (λ p. p.frame.id.page == page) ps ≡ has_page (map framed ps) page
same_page [] page = refl
same_page (p ∷ ps) page = ap (λ b. (p.frame.id.page == page) || b) (same_page ps page)

pub ids_rise : (ps : List Listed) → IsSortedByKey order_of place_cmp ps → IsSortedByKey (λ f. f.id) id_cmp (map framed ps)
ids_rise [] up k d low lt = absurd (omega (arith, lt))
ids_rise (p ∷ ps) up k d low lt =
    let within : k + 1 < length (p ∷ ps) = omega (arith, lt, length-map (p ∷ ps) framed) in
    let q : Listed = record { frame = d; table = 0 } in
    rw (get_or-map framed (p ∷ ps) k q, get_or-map framed (p ∷ ps) (k + 1) q) (ids_sorted (p ∷ ps) up k q low within)
