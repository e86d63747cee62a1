-- Frames that are sorted by their ids.
use Rattle.std.proofs.Common.{◌≡◌, ℕ, ◌+◌, ◌<◌, ◌≤◌, Bool, true, false, eqb, List, [], ◌∷◌, length, get_or, Option, Some, None, refl, sym, ap, ◌∙◌, arith, subst, inl, inr}
use Rattle.std.specs.Prelude.{find, option_map, Result, Ok, Err}
use Rattle.std.specs.Ordering.{nat_cmp, is_lt}
use Rattle.std.specs.Result.{is_ok}
use Rattle.std.specs.List.{AllAdjacentBelow, list_any}
use Rattle.std.specs.List.Sorted.{IsSortedByKey, IsBinarySearchResult, IsSearchInRange}
use Rattle.std.specs.declared.cmp.Ordering.TheVariants.{Less, Equal, Greater}
use Rattle.std.proofs.lemmas.Bool.{cases_lt}
use Rattle.std.proofs.lemmas.Cmp.{nat_cmp_total}
use Rattle.std.proofs.lemmas.Bool.Decides.{nat_tests}
use Rattle.std.proofs.lemmas.List.Sorted.{ranks_by, sorted_far, searchable_from_sorted}
use Rattle.std.proofs.lemmas.List.Folds.{list_any_at, list_any_none}
use Rattle.std.proofs.lemmas.List.{get_or_default}
use Rattle.page_ids.specs.Ids.{Id, id_cmp, id_eq}
use Rattle.page_ids.specs.IdLaws.{id_cmp_total, id_eq_same, id_eq_refl, before_of}
use Rattle.frame_records.specs.declared.frame.Frame.{Frame}
use Rattle.frame_records.specs.Bases.{IsAscending, frame_among, NoFrame, IsLeastId, IsLeastTwice, NoneTwice, frames_with}
use Rattle.frame_records.proofs.Finds.{first_found, none_found, find_first, IsPlace, two_places, count_two}
use Rattle.page_ids.specs.IdLaws.{not_after}

abbrev pub IsSortedById : List Frame → Type 0
IsSortedById frames = IsSortedByKey (λ f. f.id) id_cmp frames

-- a later frame's id isn't below an earlier one's
pub far : (xs : List Frame) → IsSortedById xs → (i j : ℕ) (d : Frame) → i ≤ j → j < length xs → is_lt (id_cmp (get_or xs j d).id (get_or xs i d).id) ≡ false
far xs sorted i j d le lt = sorted_far (λ f g. is_lt (id_cmp f.id g.id)) (ranks_by id_cmp_total (λ (f : Frame). f.id)) xs sorted i j d le lt

less_is : (a b : Id) → id_cmp a b ≡ Less → is_lt (id_cmp a b) ≡ true
less_is a b e = ap is_lt e

pub ascending_sorted : (xs : List Frame) → IsAscending xs → IsSortedById xs
ascending_sorted xs up k d low lt = not_after (get_or xs k d).id (get_or xs (k + 1) d).id (up k d lt)

-- below n ids ascend, so that two places below n have two ids
no_two : (xs : List Frame) (n j k : ℕ) (d : Frame) → IsSortedById xs → AllAdjacentBelow (λ f g. id_cmp f.id g.id ≡ Less) xs n → j < k → k < n → k < length xs → (get_or xs j d).id ≡ (get_or xs k d).id → ⊥
no_two xs n j k d sorted up jk kn kl same =
    let less : is_lt (id_cmp (get_or xs j d).id (get_or xs (j + 1) d).id) ≡ true = less_is (get_or xs j d).id (get_or xs (j + 1) d).id (up j d (omega arith)) in
    let not_less : is_lt (id_cmp (get_or xs k d).id (get_or xs (j + 1) d).id) ≡ false = far xs sorted (j + 1) k d (omega arith) kl in
    let also : is_lt (id_cmp (get_or xs j d).id (get_or xs (j + 1) d).id) ≡ false = ap (λ (i : Id). is_lt (id_cmp i (get_or xs (j + 1) d).id)) same ∙ not_less in
    let clash : true ≡ false = sym less ∙ also in
    cc

id_at : (xs : List Frame) (id : Id) (k : ℕ) (d : Frame) → IsPlace (λ f. id_eq f.id id) xs k → (get_or xs k d).id ≡ id
id_at xs id k d h = id_eq_same (get_or xs k d).id id (h.passes d)

-- if ids ascend none is twice there
once : (xs : List Frame) (d : Frame) (id : Id) → IsSortedById xs → IsAscending xs → frames_with xs id ≤ 1
once xs d id sorted up =
    let no : 2 ≤ frames_with xs id → ⊥ = λ two. let p = two_places (λ f. id_eq f.id id) xs two in no_two xs (length xs) p.0 p.1 d sorted up p.2 p.4.within p.4.within (id_at xs id p.0 d p.3 ∙ sym (id_at xs id p.1 d p.4)) in
    omega arith

pub none_twice : (xs : List Frame) → IsAscending xs → NoneTwice xs
none_twice [] up id = omega arith
none_twice (x ∷ xs) up id = once (x ∷ xs) x id (ascending_sorted (x ∷ xs) up) up

neighbours_twice : (xs : List Frame) (j i : ℕ) (d : Frame) → i ≡ j + 1 → i < length xs → id_eq (get_or xs j d).id (get_or xs i d).id ≡ true → 2 ≤ frames_with xs (get_or xs i d).id
neighbours_twice xs j i d e lt same =
    let id : Id = (get_or xs i d).id in
    count_two (λ f. id_eq f.id id) xs j i (omega arith)
    (record { within = omega arith; passes = λ c. ap (λ (f : Frame). id_eq f.id id) (get_or_default xs j c d (omega arith)) ∙ same })
    (record { within = lt; passes = λ c. ap (λ (f : Frame). id_eq f.id id) (get_or_default xs i c d lt) ∙ id_eq_refl id })

-- the first two neighbours of one id have the smallest id that is twice there
pub least_twice : (xs : List Frame) (j i : ℕ) (d : Frame) → i ≡ j + 1 → i < length xs → IsSortedById xs → AllAdjacentBelow (λ f g. id_cmp f.id g.id ≡ Less) xs i → id_eq (get_or xs j d).id (get_or xs i d).id ≡ true → IsLeastTwice xs (get_or xs i d).id
least_twice xs j i d e lt sorted up same = record {
  twice = neighbours_twice xs j i d e lt same;
  least = λ other two.
      let p = two_places (λ f. id_eq f.id other) xs two in
      let at_k : (get_or xs p.1 d).id ≡ other = id_at xs other p.1 d p.4 in
      elim (cases_lt p.1 i) [
        | inl below ↦ absurd (no_two xs i p.0 p.1 d sorted up p.2 below p.4.within (id_at xs other p.0 d p.3 ∙ sym at_k))
        | inr from ↦ ap (λ (o : Id). is_lt (id_cmp o (get_or xs i d).id)) (sym at_k) ∙ far xs sorted i p.1 d from p.4.within
      ];
}

-- the first frame of sorted ones that passes has the smallest id of those that pass
pub least_of_first : (test : Frame → Bool) (xs : List Frame) (f : Frame) → IsSortedById xs → find test xs ≡ Some f → IsLeastId test xs f.id
least_of_first test xs f sorted e =
    let p = first_found test xs f e in
    let first = p.1 in
    record {
      some = (p.0, f, first.within, first.at f, (first.passes, refl));
      least = λ k d lt passes. elim (cases_lt k p.0) [
        | inl before ↦ let clash : true ≡ false = sym passes ∙ first.before k d before in absurd cc
        | inr from ↦ ap (λ (g : Frame). is_lt (id_cmp (get_or xs k d).id g.id)) (sym (first.at d)) ∙ far xs sorted p.0 k d from lt
      ];
    }

pub no_frame_of_none : (test : Frame → Bool) (xs : List Frame) → find test xs ≡ None → NoFrame test xs
no_frame_of_none test xs e k d lt = none_found test xs e k d lt

-- ids of two places of ascending frames differ
pub apart_at : (xs : List Frame) (i k : ℕ) (d : Frame) → IsAscending xs → k < i → i < length xs → id_eq (get_or xs k d).id (get_or xs i d).id ≡ false
apart_at xs i k d up lt within = by_test (id_eq (get_or xs k d).id (get_or xs i d).id) refl where
  by_test : (b : Bool) → id_eq (get_or xs k d).id (get_or xs i d).id ≡ b → b ≡ false
  by_test true e = absurd (no_two xs (length xs) k i d (ascending_sorted xs up) up lt within within (id_eq_same (get_or xs k d).id (get_or xs i d).id e))
  by_test false e = refl

equal_ids : (a b : Id) → id_cmp a b ≡ Equal → id_eq a b ≡ true
equal_ids a b e = grind (arith, nat_tests)

-- the frame at a place is the one of its id
pub found_at : (xs : List Frame) (id : Id) (i : ℕ) (f : Frame) → IsAscending xs → i < length xs → get_or xs i f ≡ f → id_cmp f.id id ≡ Equal → frame_among xs id ≡ Some f
found_at xs id i f up lt at e =
    let same : f.id ≡ id = id_eq_same f.id id (equal_ids f.id id e) in
    find_first (λ g. id_eq g.id id) xs i f lt at (equal_ids f.id id e)
    (λ k l. ap (λ (o : Id). id_eq (get_or xs k f).id o) (sym same ∙ ap (λ (g : Frame). g.id) (sym at)) ∙ apart_at xs i k f up l lt)

page_le : (a b : Id) → is_lt (id_cmp b a) ≡ false → a.page ≤ b.page
page_le a b e = grind (arith, nat_tests)

no_less : (a b : ℕ) → a ≤ b → is_lt (nat_cmp b a) ≡ false
no_less a b le = grind (arith, nat_tests)

pub pages_sorted : (xs : List Frame) → IsAscending xs → IsSortedByKey (λ f. f.id.page) nat_cmp xs
pages_sorted xs up k d low lt = no_less (get_or xs k d).id.page (get_or xs (k + 1) d).id.page (page_le (get_or xs k d).id (get_or xs (k + 1) d).id (not_after (get_or xs k d).id (get_or xs (k + 1) d).id (up k d lt)))

pub equal_page : (a b : ℕ) → nat_cmp a b ≡ Equal → eqb a b ≡ true
equal_page a b e = grind (arith, nat_tests)

pub less_page : (a b : ℕ) → nat_cmp a b ≡ Less → eqb a b ≡ false
less_page a b e = grind (arith, nat_tests)

pub greater_page : (a b : ℕ) → nat_cmp a b ≡ Greater → eqb a b ≡ false
greater_page a b e = grind (arith, nat_tests)

module _ {A : Type 0} (key : A → ℕ) (n : ℕ) where
  key_at : (xs : List A) (i : ℕ) → i < length xs → IsBinarySearchResult (λ a. nat_cmp (key a) n) xs (Ok i) → list_any (λ a. eqb (key a) n) xs ≡ true
  key_at [] i lt h = absurd (omega arith)
  key_at (a ∷ xs) i lt h = list_any_at (λ b. eqb (key b) n) (a ∷ xs) i a lt (equal_page (key (get_or (a ∷ xs) i a)) n (h a))

  key_missing : (xs : List A) (i : ℕ) → IsSortedByKey key nat_cmp xs → IsBinarySearchResult (λ a. nat_cmp (key a) n) xs (Err i) → list_any (λ a. eqb (key a) n) xs ≡ false
  key_missing xs i up h =
      let p = h (searchable_from_sorted nat_cmp_total key xs n up) in
      list_any_none (λ a. eqb (key a) n) xs (λ k d lt. elim (cases_lt k i) [
        | inl before ↦ less_page (key (get_or xs k d)) n (p.0 k d (omega arith) before)
        | inr from ↦ greater_page (key (get_or xs k d)) n (p.1 k d from lt)
      ])

  -- a binary search by a number decides whether one has it
  pub key_found : (xs : List A) (r : Result ℕ ℕ) → IsSortedByKey key nat_cmp xs → IsSearchInRange r (length xs) → IsBinarySearchResult (λ a. nat_cmp (key a) n) xs r → is_ok r ≡ list_any (λ a. eqb (key a) n) xs
  key_found xs (Ok i) up within h = sym (key_at xs i within h)
  key_found xs (Err i) up within h = sym (key_missing xs i up h)

-- neighbours of two ids ascend
pub rises : (xs : List Frame) (j i : ℕ) (x y d : Frame) → i ≡ j + 1 → i < length xs → IsSortedById xs → id_eq (get_or xs j x).id (get_or xs i y).id ≡ false → id_cmp (get_or xs j d).id (get_or xs i d).id ≡ Less
rises xs j i x y d e lt sorted ne =
    let at_j : get_or xs j d ≡ get_or xs j x = get_or_default xs j d x (omega arith) in
    let at_i : get_or xs i d ≡ get_or xs i y = get_or_default xs i d y lt in
    let ne2 : id_eq (get_or xs j d).id (get_or xs i d).id ≡ false = rw (at_j, at_i) ne in
    before_of (get_or xs j d).id (get_or xs i d).id (far xs sorted j i d (omega arith) lt) ne2

named_by : (o : Option Frame) (id : Id) → Some id ≡ option_map (λ f. f.id) o → (f : Frame) × (o ≡ Some f) × (f.id ≡ id)
named_by None id e = absurd cc
named_by (Some f) id e = (f, refl, cc)

-- the same if the code answers the id alone
pub least_named : (test : Frame → Bool) (xs : List Frame) (id : Id) → IsSortedById xs → Some id ≡ option_map (λ f. f.id) (find test xs) → IsLeastId test xs id
least_named test xs id sorted e =
    let n = named_by (find test xs) id e in
    subst (IsLeastId test xs) n.2 (least_of_first test xs n.0 sorted n.1)

unnamed_by : (o : Option Frame) → None ≡ option_map (λ f. f.id) o → o ≡ None
unnamed_by None e = refl
unnamed_by (Some f) e = absurd cc

pub none_named : (test : Frame → Bool) (xs : List Frame) → None ≡ option_map (λ f. f.id) (find test xs) → NoFrame test xs
none_named test xs e = no_frame_of_none test xs (unnamed_by (find test xs) e)
