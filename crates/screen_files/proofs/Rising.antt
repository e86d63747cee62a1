-- The frames that are kept ascend.
use Rattle.std.proofs.Common.{◌≡◌, ◌+◌, ◌&&◌, ℕ, Bool, true, false, not, List, [], ◌∷◌, get_or, add-one, refl, sym, ap, subst, arith}
use Rattle.std.specs.Ordering.{is_lt}
use Rattle.std.specs.List.Sorted.{IsSortedByKey}
use Rattle.std.specs.declared.cmp.Ordering.TheVariants.{Less}
use Rattle.page_ids.specs.Ids.{Id, id_cmp}
use Rattle.page_ids.specs.IdLaws.{before_of, id_eq_same}
use Rattle.screen_files.specs.declared.filed.Filed.{Filed}
use Rattle.screen_files.specs.Settling.{has_same_id, stands_for, chosen, kept_from, settled_frames, IsIdBefore, Ascend}

abbrev AreSorted : List Filed → Type 0
AreSorted frames = IsSortedByKey (λ (f : Filed). f.frame.id) id_cmp frames

abbrev IsNotBefore : Id → Filed → Type 0
IsNotBefore id f = is_lt (id_cmp f.frame.id id) ≡ false

-- no id is before the one before it
unfoldable Rise : Id → List Filed → Type 0
Rise id [] = Unit {0}
Rise id (f ∷ fs) = IsNotBefore id f × Rise f.frame.id fs

sorted_rest : (f : Filed) (fs : List Filed) → AreSorted (f ∷ fs) → AreSorted fs
sorted_rest f fs sorted k d lo hi =
    let here = sorted (k + 1) d (omega arith) (omega (arith, hi)) in
    let this : get_or (f ∷ fs) (k + 1) d ≡ get_or fs k d = ap (λ (i : ℕ). get_or (f ∷ fs) i d) (add-one k) in
    let next : get_or (f ∷ fs) (k + 1 + 1) d ≡ get_or fs (k + 1) d = ap (λ (i : ℕ). get_or (f ∷ fs) i d) (add-one (k + 1)) in
    rw (this, next) at here

rise_of : (f : Filed) (fs : List Filed) → AreSorted (f ∷ fs) → Rise f.frame.id fs
unfolding Rise
rise_of f [] sorted = tt
rise_of f (g ∷ gs) sorted = (sorted 0 f (omega arith) (omega arith), rise_of g gs (sorted_rest f (g ∷ gs) sorted))

-- the one that is chosen of two with one id has that id
chosen_id : (kept f : Filed) → has_same_id kept f ≡ true → (chosen kept f).frame.id ≡ f.frame.id
chosen_id kept f same = by (not (stands_for kept f) && stands_for f kept) refl where
  by : (b : Bool) → (not (stands_for kept f) && stands_for f kept) ≡ b → (chosen kept f).frame.id ≡ f.frame.id
  by true e = rw e refl
  by false e = rw e (id_eq_same kept.frame.id f.frame.id same)

-- the first that is kept has the id of the first, and those after it ascend
record AreKept (id : Id) (frames : List Filed) : Type 0 where
  before : (f : Filed) → id_cmp f.frame.id id ≡ Less → IsIdBefore f frames
  ascend : Ascend frames

module _ (kept f : Filed) (fs : List Filed) where
  same_ascend : has_same_id kept f ≡ true → AreKept f.frame.id (kept_from (chosen kept f) fs) → AreKept kept.frame.id (kept_from kept (f ∷ fs))
  unfolding kept_from
  same_ascend e rest =
      rw e (subst (λ (i : Id). AreKept i (kept_from (chosen kept f) fs)) (sym (id_eq_same kept.frame.id f.frame.id e)) rest)

  other_ascend : IsNotBefore kept.frame.id f → has_same_id kept f ≡ false → AreKept f.frame.id (kept_from f fs) → AreKept kept.frame.id (kept_from kept (f ∷ fs))
  unfolding kept_from Ascend
  other_ascend not_before e rest =
      let less = before_of kept.frame.id f.frame.id not_before e in
      rw e record { before = λ g before. before; ascend = (rest.before kept less, rest.ascend) }

kept_ascend : (kept : Filed) (fs : List Filed) → Rise kept.frame.id fs → AreKept kept.frame.id (kept_from kept fs)
unfolding Rise kept_from Ascend
kept_ascend kept [] rise = record { before = λ f less. less; ascend = (tt, tt) }
kept_ascend kept (f ∷ fs) rise =
    by (λ same. let id = chosen_id kept f same in subst (λ (i : Id). AreKept i (kept_from (chosen kept f) fs)) id (kept_ascend (chosen kept f) fs (subst (λ (i : Id). Rise i fs) (sym id) rise.1))) (kept_ascend f fs rise.1) (has_same_id kept f) refl where
      by : (has_same_id kept f ≡ true → AreKept f.frame.id (kept_from (chosen kept f) fs)) → AreKept f.frame.id (kept_from f fs) → (b : Bool) → has_same_id kept f ≡ b → AreKept kept.frame.id (kept_from kept (f ∷ fs))
      by same other true e = same_ascend kept f fs e (same e)
      by same other false e = other_ascend kept f fs rise.0 e other

pub kept_rise : (frames : List Filed) → AreSorted frames → Ascend (settled_frames frames)
unfolding Ascend
kept_rise [] sorted = tt
kept_rise (f ∷ fs) sorted = (kept_ascend f fs (rise_of f fs sorted)).ascend
