-- What holds of the sorted lists holds of the lists that were handed over.
use Rattle.std.proofs.Common.{◌≡◌, ℕ, ◌≤◌, ◌||◌, Bool, true, false, cond, eqb, ltb, suc, List, [], ◌∷◌, length, refl, sym, ◌∙◌, ap, arith, subst}
use Rattle.std.specs.Prelude.{Contains, IsPermutation}
use Rattle.std.specs.Ordering.{nat_cmp, is_lt}
use Rattle.std.specs.List.{dedup, dedup_from}
use Rattle.std.specs.List.Sorted.{IsSorted, IsSortedByKey, IsStrictlyIncreasing}
use Rattle.std.proofs.lemmas.Bool.Decides.{nat_tests}
use Rattle.std.proofs.lemmas.List.Sorted.{IsPermutation-sym, All-permutation, Contains-permutation, sum_by-IsPermutation, list_any-IsPermutation, length_permutation}
use Rattle.std.proofs.lemmas.List.Kept.{Contains-dedup_nat, Contains-from_dedup}
use Rattle.std.proofs.lemmas.Map.Keys.{IsStrictlyIncreasing-dedup}
use Rattle.page_ids.specs.Ids.{Id, id_cmp}
use Rattle.frame_records.specs.declared.frame.Frame.{Frame}
use Rattle.frame_records.specs.declared.build.BuildFault.{BuildFault}
use Rattle.frame_records.specs.declared.build.BuildFault.TheVariants.{TooMany, BodyTooLong, NextAfterZ, Duplicate, OutsideInside}
use Rattle.frame_records.specs.Bases.{IsBase, are_too_many, is_body_long, is_next_after_z, NoFrame, has_page, IsLeastId, frames_with, NoneTwice, IsLeastTwice, NoneInside, IsLeastInside, IsBuildFault, IsBaseOf}
use Rattle.frame_records.specs.Loops.{IsUnrefused, AreSorted}
use Rattle.frame_records.specs.WayLaws.{apart_from_none}
use Rattle.frame_records.proofs.SortedFrames.{none_twice}

module _ (outside pages : List ℕ) (frames sorted : List Frame) (s : AreSorted outside pages frames sorted) where
  back : IsPermutation sorted frames
  back = IsPermutation-sym frames sorted s.same_frames

  none_back : (test : Frame → Bool) → NoFrame test sorted → NoFrame test frames
  none_back test h = All-permutation (λ f. test f ≡ false) sorted frames back h

  least_back : (test : Frame → Bool) (id : Id) → IsLeastId test sorted id → IsLeastId test frames id
  least_back test id h =
      let c = Contains-permutation sorted frames h.some.1 back (h.some.0, h.some.2, h.some.3) in
      record {
        some = (c.0, h.some.1, c.1, c.2, h.some.4);
        least = All-permutation (λ f. test f ≡ true → is_lt (id_cmp f.id id) ≡ false) sorted frames back h.least;
      }

  count_back : (id : Id) → frames_with sorted id ≡ frames_with frames id
  count_back id = sum_by-IsPermutation _ frames sorted s.same_frames

  page_back : (page : ℕ) → has_page frames page ≡ has_page sorted page
  page_back page = list_any-IsPermutation _ frames sorted s.same_frames

  once_back : NoneTwice sorted → NoneTwice frames
  once_back h id = omega (arith, count_back id, h id)

  twice_back : (id : Id) → IsLeastTwice sorted id → IsLeastTwice frames id
  twice_back id h = record {
    twice = omega (arith, count_back id, h.twice);
    least = λ other two. h.least other (omega (arith, count_back other, two));
  }

  inside_back : (page : ℕ) → IsLeastInside pages sorted page → IsLeastInside outside frames page
  inside_back page h = record {
    listed = (s.same_pages page).0 h.listed;
    inside = page_back page ∙ h.inside;
    least = λ other has is. h.least other ((s.same_pages other).1 has) (sym (page_back other) ∙ is);
  }

  outside_back : NoneInside pages sorted → NoneInside outside frames
  outside_back h page has = page_back page ∙ h page ((s.same_pages page).1 has)

  pub fault_back : (fault : BuildFault) → IsBuildFault pages sorted fault → IsBuildFault outside frames fault
  fault_back TooMany h = let clash : true ≡ false = sym h ∙ s.still_few in cc
  fault_back (BodyTooLong id) h = (s.few, least_back is_body_long id h.1)
  fault_back (NextAfterZ id) h = (s.few, none_back is_body_long h.1, least_back is_next_after_z id h.2)
  fault_back (Duplicate id) h = (s.few, none_back is_body_long h.1, none_back is_next_after_z h.2, twice_back id h.3)
  fault_back (OutsideInside page) h = (s.few, none_back is_body_long h.1, none_back is_next_after_z h.2, once_back h.3, inside_back page h.4)

  pub base_valid : (entry : ℕ) → IsUnrefused pages sorted → IsBase (record { entry = entry; outside = pages; frames = sorted })
  base_valid entry h = record {
    few = s.still_few;
    short = h.short;
    no_next_after_z = h.no_next_after_z;
    ascending = h.ascending;
    pages_ascend = s.pages_ascend;
    apart = apart_from_none (record { entry = entry; outside = pages; frames = sorted }) h.none_inside;
  }

  pub base_back : (entry : ℕ) → IsUnrefused pages sorted → IsBaseOf entry outside frames (record { entry = entry; outside = pages; frames = sorted })
  base_back entry h = record {
    few = s.few;
    short = none_back is_body_long h.short;
    no_next_after_z = none_back is_next_after_z h.no_next_after_z;
    none_twice = once_back (none_twice sorted h.ascending);
    none_inside = outside_back h.none_inside;
    same_entry = refl;
    same_pages = s.same_pages;
    same_frames = s.same_frames;
    valid = base_valid entry h;
  }

few_parts : (a b : ℕ) → (ltb 65535 a || ltb 65535 b) ≡ false → (a ≤ 65535) × (b ≤ 65535)
few_parts a b h = by_tests (ltb 65535 a) (ltb 65535 b) refl refl h where
  by_tests : (p q : Bool) → ltb 65535 a ≡ p → ltb 65535 b ≡ q → (p || q) ≡ false → (a ≤ 65535) × (b ≤ 65535)
  by_tests true q e f k = cc
  by_tests false true e f k = cc
  by_tests false false e f k = (grind (arith, nat_tests), grind (arith, nat_tests))

few_from : (a b : ℕ) → a ≤ 65535 → b ≤ 65535 → (ltb 65535 a || ltb 65535 b) ≡ false
few_from a b small few =
    let p : ltb 65535 a ≡ false = grind (arith, nat_tests) in
    let q : ltb 65535 b ≡ false = grind (arith, nat_tests) in
    rw (p, q) refl

from_shorter : (b : Bool) (k x : ℕ) (xs : List ℕ) → length (dedup_from eqb k xs) ≤ suc (length xs) → length (dedup_from eqb x xs) ≤ suc (length xs) → length (cond b (dedup_from eqb k xs) (k ∷ dedup_from eqb x xs)) ≤ suc (suc (length xs))
from_shorter true k x xs h g = omega (arith, h)
from_shorter false k x xs h g = omega (arith, g)

length_dedup_from : (k : ℕ) (xs : List ℕ) → length (dedup_from eqb k xs) ≤ suc (length xs)
length_dedup_from k [] = omega arith
length_dedup_from k (x ∷ xs) = from_shorter (eqb x k) k x xs (length_dedup_from k xs) (length_dedup_from x xs)

length_dedup : (xs : List ℕ) → length (dedup eqb xs) ≤ length xs
length_dedup [] = omega arith
length_dedup (x ∷ xs) = length_dedup_from x xs

-- what sorting and `dedup` leave
pub sorted_of : (outside ascending pages : List ℕ) (frames sorted : List Frame) → are_too_many outside frames ≡ false → IsPermutation outside ascending → IsSorted nat_cmp ascending → pages ≡ dedup eqb ascending → IsPermutation frames sorted → IsSortedByKey (λ f. f.id) id_cmp sorted → AreSorted outside pages frames sorted
sorted_of outside ascending pages frames sorted few moved up is moved_frames sorted_frames =
    let parts = few_parts (length frames) (length outside) few in
    record {
      same_pages = λ page. (
        λ has. Contains-permutation ascending outside page (IsPermutation-sym outside ascending moved) (Contains-from_dedup eqb ascending page (subst (λ (ps : List ℕ). Contains ps page) is has)),
        λ has. subst (λ (ps : List ℕ). Contains ps page) (sym is) (Contains-dedup_nat ascending page (Contains-permutation outside ascending page moved has)),
      );
      pages_ascend = subst IsStrictlyIncreasing (sym is) (IsStrictlyIncreasing-dedup ascending up);
      same_frames = moved_frames;
      frames_sorted = sorted_frames;
      few = few;
      still_few = few_from (length sorted) (length pages) (omega (arith, length_permutation frames sorted moved_frames, parts.0)) (omega (arith, ap length is, length_dedup ascending, length_permutation outside ascending moved, parts.1));
    }
