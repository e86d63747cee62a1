-- Two lists make one base.
use Rattle.std.proofs.Common.{◌≡◌, ℕ, zero, suc, ◌<◌, List, [], ◌∷◌, length, get_or, ◌⊎◌, inl, inr, refl, sym, ap, ◌∙◌, arith}
use Rattle.std.specs.Prelude.{Contains, IsPermutation}
use Rattle.std.specs.List.{AllByRecursion}
use Rattle.std.specs.List.Sorted.{IsStrictlySortedBy}
use Rattle.std.specs.Ordering.{nat_cmp}
use Rattle.std.specs.declared.cmp.Ordering.{Ordering}
use Rattle.std.specs.declared.cmp.Ordering.TheVariants.{Less}
use Rattle.std.proofs.lemmas.Cmp.{on_total}
use Rattle.std.proofs.lemmas.Bool.Decides.{nat_tests}
use Rattle.std.proofs.lemmas.List.Elements.{All-contains, All-from_recursion}
use Rattle.std.proofs.lemmas.List.Sorted.{IsPermutation-sym, Contains-permutation}
use Rattle.std.proofs.lemmas.Map.Keys.{sorted_from_strictly_increasing, sorted_from_all_adjacent}
use Rattle.page_ids.specs.Ids.{Id, id_cmp}
use Rattle.page_ids.specs.IdLaws.{id_cmp_total}
use Rattle.frame_records.specs.declared.frame.Frame.{Frame}
use Rattle.frame_records.specs.Bases.{BaseView, IsAscending, BasesAreOne}

pub first_in : {A : Type 0} (x : A) (xs : List A) → Contains (x ∷ xs) x
first_in x xs = (0, omega arith, refl)

pub later_in : {A : Type 0} (x : A) (xs : List A) (z : A) → Contains xs z → Contains (x ∷ xs) z
later_in x xs z h = (suc h.0, omega (arith, h.1), h.2)

by_place : {A : Type 0} (x : A) (xs : List A) (z : A) (k : ℕ) → k < length (x ∷ xs) → get_or (x ∷ xs) k z ≡ z → (x ≡ z) ⊎ Contains xs z
by_place x xs z zero lt at = inl at
by_place x xs z (suc k) lt at = inr (k, omega arith, at)

pub first_or_later : {A : Type 0} (x : A) (xs : List A) (z : A) → Contains (x ∷ xs) z → (x ≡ z) ⊎ Contains xs z
first_or_later x xs z h = by_place x xs z h.0 h.1 h.2

pub all_at : {A : Type 0} (P : A → Type 0) (xs : List A) (z : A) → AllByRecursion P xs → Contains xs z → P z
all_at P xs z all h = All-contains P xs z (All-from_recursion P xs all) h

-- after the first element that two such lists share, one has what the other has
kept : {A : Type 0} (c : A → A → Ordering) → ((a b : A) → c a b ≡ Less → c b a ≡ Less → ⊥) → (x y : A) (xs ys : List A) (z : A) → x ≡ y → AllByRecursion (λ w. c x w ≡ Less) xs → Contains xs z → Contains (y ∷ ys) z → Contains ys z
kept c one_way x y xs ys z same up has h = elim (first_or_later y ys z h) [
  | inl e ↦
      let is : x ≡ z = same ∙ e in
      let below : c x z ≡ Less = all_at (λ w. c x w ≡ Less) xs z up has in
      absurd (one_way x z below (ap (λ w. c w x) (sym is) ∙ ap (λ w. c x w) is ∙ below))
  | inr later ↦ later
]

-- lists that ascend and have the same elements are one
one_list : {A : Type 0} (c : A → A → Ordering) → ((a b : A) → c a b ≡ Less → c b a ≡ Less → ⊥) → (xs ys : List A) → IsStrictlySortedBy c xs → IsStrictlySortedBy c ys → ((z : A) → Contains xs z → Contains ys z) → ((z : A) → Contains ys z → Contains xs z) → xs ≡ ys
unfolding IsStrictlySortedBy
one_list c one_way [] [] up vp to from = refl
one_list c one_way [] (y ∷ ys) up vp to from = absurd (omega (arith, (from y (first_in y ys)).1))
one_list c one_way (x ∷ xs) [] up vp to from = absurd (omega (arith, (to x (first_in x xs)).1))
one_list c one_way (x ∷ xs) (y ∷ ys) up vp to from =
    let same : x ≡ y = elim (first_or_later y ys x (to x (first_in x xs))) [
      | inl e ↦ sym e
      | inr behind ↦ elim (first_or_later x xs y (from y (first_in y ys))) [
        | inl e ↦ e
        | inr later ↦ absurd (one_way x y (all_at (λ z. c x z ≡ Less) xs y up.0 later) (all_at (λ z. c y z ≡ Less) ys x vp.0 behind))
      ]
    ] in
    let rest = one_list c one_way xs ys up.1 vp.1
    (λ z has. kept c one_way x y xs ys z same up.0 has (to z (later_in x xs z has)))
    (λ z has. kept c one_way y x ys xs z (sym same) vp.0 has (from z (later_in y ys z has))) in
    cc

pages_one_way : (a b : ℕ) → nat_cmp a b ≡ Less → nat_cmp b a ≡ Less → ⊥
pages_one_way a b h k = grind (arith, nat_tests)

abbrev by_id : Frame → Frame → Ordering
by_id f g = id_cmp f.id g.id

ids_one_way : (a b : Id) → id_cmp a b ≡ Less → id_cmp b a ≡ Less → ⊥
ids_one_way a b h k = grind (arith, nat_tests)

sorted_frames : (frames : List Frame) → IsAscending frames → IsStrictlySortedBy by_id frames
unfolding IsStrictlySortedBy
sorted_frames [] up = tt
sorted_frames (f ∷ fs) up = sorted_from_all_adjacent (on_total (λ (g : Frame). g.id) id_cmp_total) (f ∷ fs) f (λ k lt. up k f lt)

same_frames : (listed : List Frame) (a b : BaseView) → IsPermutation listed a.frames → IsPermutation listed b.frames → IsAscending a.frames → IsAscending b.frames → a.frames ≡ b.frames
same_frames listed a b into_a into_b up_a up_b =
    one_list by_id (λ f g. ids_one_way f.id g.id) a.frames b.frames (sorted_frames a.frames up_a) (sorted_frames b.frames up_b)
    (λ z has. Contains-permutation listed b.frames z into_b (Contains-permutation a.frames listed z (IsPermutation-sym listed a.frames into_a) has))
    (λ z has. Contains-permutation listed a.frames z into_a (Contains-permutation b.frames listed z (IsPermutation-sym listed b.frames into_b) has))

abbrev view_of : ℕ → List ℕ → List Frame → BaseView
view_of entry outside frames = record { entry = entry; outside = outside; frames = frames }

same_view : (e : ℕ) (o : List ℕ) (f : List Frame) (d : ℕ) (p : List ℕ) (g : List Frame) → e ≡ d → o ≡ p → f ≡ g → view_of e o f ≡ view_of d p g
same_view e o f d p g h k l = cc

pub one_base : BasesAreOne
one_base entry outside frames a b is_a is_b =
    let pages : a.outside ≡ b.outside = one_list nat_cmp pages_one_way a.outside b.outside
    (sorted_from_strictly_increasing a.outside is_a.valid.pages_ascend) (sorted_from_strictly_increasing b.outside is_b.valid.pages_ascend)
    (λ page has. (is_b.same_pages page).1 ((is_a.same_pages page).0 has))
    (λ page has. (is_a.same_pages page).1 ((is_b.same_pages page).0 has)) in
    same_view a.entry a.outside a.frames b.entry b.outside b.frames (is_a.same_entry ∙ sym is_b.same_entry) pages
    (same_frames frames a b is_a.same_frames is_b.same_frames is_a.valid.ascending is_b.valid.ascending)
