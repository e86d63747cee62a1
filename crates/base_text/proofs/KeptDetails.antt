-- What is kept of what is wrong.
use Rattle.std.proofs.Common.{◌≡◌, ◌∙◌, ◌≤◌, ◌<◌, ◌+◌, ◌-◌, ◌^◌, min, ℕ, Bool, true, false, List, [], ◌∷◌, ◌++◌, append_assoc, append-nil, length, length-append, take, map, codes, nat_le, Option, Some, None, Result, Err, refl, sym, arith}
use Rattle.std.proofs.lemmas.Bool.Decides.{nat_tests}
use Rattle.std.proofs.lemmas.List.{take_all, take-append-le}
use Rattle.page_ids.specs.Ids.{Id}
use Rattle.toml.specs.Data.{Items, no_items, item, Members, get_member}
use Rattle.frame_records.specs.declared.frame.Frame.{Frame}
use Rattle.base_text.specs.declared.detail.Detail.{Detail}
use Rattle.base_text.specs.Details.{KeptView, nothing_kept, with_one, with_all, kept}
use Rattle.base_text.specs.declared.limits.TheConstants.{MOST_FAULTS}
use Rattle.base_text.specs.declared.detail.TextFault.{TextFault}
use Rattle.base_text.specs.declared.fault.BaseFault.{BaseFault}
use Rattle.base_text.specs.Frames.{frame_index, frame_if, element_of}
use Rattle.base_text.specs.Loops.{first_fault, IsFirst}
use Rattle.base_text.specs.Whole.{PartsView, parts_or, table_parts}
use Rattle.base_text.specs.Drafts.{BeginAlike, fault_at, listed_from, listed_faults, elements, elements_listed, elements_faults, top_of, text_faults, draft_of}

pub with_both : (k : KeptView) (ds es : List Detail) → with_all k (ds ++ es) ≡ with_all (with_all k ds) es
with_both k [] es = refl
with_both k (d ∷ ds) es = with_both (with_one k d) ds es

-- what was kept stays
stays : (k : KeptView) (ds : List Detail) (d : Detail) (rest : List Detail) → k.first ≡ d ∷ rest → (more : List Detail) × ((with_all k ds).first ≡ d ∷ more)
stays k [] d rest is = (rest, is)
stays k (e ∷ ds) d rest is = on (nat_le (length k.first) k.most) refl (λ more begins. stays (with_one k e) ds d more begins) where
  on : (b : Bool) → nat_le (length k.first) k.most ≡ b → ((more : List Detail) → (with_one k e).first ≡ d ∷ more → (all : List Detail) × ((with_all (with_one k e) ds).first ≡ d ∷ all)) → (all : List Detail) × ((with_all (with_one k e) ds).first ≡ d ∷ all)
  on true fits go = go (rest ++ e ∷ []) (rw (fits, is) refl)
  on false full go = go rest (rw full is)

-- the first of what is wrong is kept
pub first_kept : (most : ℕ) (d : Detail) (ds : List Detail) → (more : List Detail) × ((kept most (d ∷ ds)).first ≡ d ∷ more)
first_kept most d ds =
    let fits : nat_le 0 most ≡ true = grind (arith, nat_tests) in
    stays (with_one (nothing_kept most) d) ds d [] (rw fits refl)

-- so the first that is kept is the first of all
pub fault_kept : (frame : Option ℕ) (most : ℕ) (ds : List Detail) → first_fault frame (kept most ds).first ≡ first_fault frame ds
fault_kept frame most [] = refl
fault_kept frame most (d ∷ ds) = let (more, held) = first_kept most d ds in rw held refl

pub none_kept : (most : ℕ) (ds : List Detail) → (kept most ds).first ≡ [] → ds ≡ []
none_kept most [] is = refl
none_kept most (d ∷ ds) is = let (more, held) = first_kept most d ds in absurd (clash (sym held ∙ is)) where
  clash : {e : Detail} {es : List Detail} → e ∷ es ≡ [] → ⊥
  clash e = cc

-- so what is wrong is found by the first that is kept
pub clean : (frame : Option ℕ) (ds : List Detail) → first_fault frame (kept 0 ds).first ≡ None → ds ≡ []
clean frame [] none = refl
clean frame (d ∷ ds) none = absurd (clash (sym (fault_kept frame 0 (d ∷ ds)) ∙ none)) where
  clash : {f : BaseFault} → Some f ≡ None → ⊥
  clash e = cc

pub begins : (i : ℕ) (id : Option Id) (ds : List Detail) (fault : BaseFault) → first_fault (frame_index i) (kept 0 ds).first ≡ Some fault → IsFirst (map (fault_at (Some i) id) ds) fault
begins i id [] fault is = absurd cc
begins i id (d ∷ ds) fault is = same (sym (fault_kept (frame_index i) 0 (d ∷ ds)) ∙ is) where
  same : {f : BaseFault} → Some f ≡ Some fault → fault ≡ f
  same e = cc

abbrev failed : BaseFault → Result PartsView BaseFault
failed f = Err f

pub top_fails : (ms : Members) (fault : BaseFault) → first_fault None (kept 0 (top_of ms).details).first ≡ Some fault → table_parts ms ≡ Err fault
top_fails ms fault is = on (top_of ms).details is where
  on : (ds : List Detail) → first_fault None (kept 0 ds).first ≡ Some fault → parts_or (map (fault_at None None) ds ++ elements_faults 0 (elements (get_member (codes "frame") ms))) (top_of ms).entry (draft_of ms) ≡ Err fault
  on [] none = absurd cc
  on (d ∷ ds) is = same (sym (fault_kept None 0 (d ∷ ds)) ∙ is) where
    same : {f : BaseFault} → Some f ≡ Some fault → failed f ≡ Err fault
    same e = cc

-- a frame is there if nothing is wrong, also by what is kept
pub frame_if_kept : (most : ℕ) (ds : List Detail) (frame : Option Frame) → frame_if (kept most ds).first frame ≡ frame_if ds frame
frame_if_kept most [] frame = refl
frame_if_kept most (d ∷ ds) frame = let (more, held) = first_kept most d ds in rw held refl

-- What is kept, by its length alone.

-- the count is that of all, as far as 64 bits hold it
counted : (k : KeptView) (ds : List Detail) → k.count + length ds < 2 ^ 64 → (with_all k ds).count ≡ k.count + length ds
counted k [] fits = omega arith
counted k (d ∷ ds) fits =
    let next : min (k.count + 1) (2 ^ 64 - 1) ≡ k.count + 1 = omega (arith, fits) in
    let rest = counted (with_one k d) ds (rw next (omega (arith, fits))) in
    rest ∙ rw next (omega arith)

same_most : (k : KeptView) (ds : List Detail) → (with_all k ds).most ≡ k.most
same_most k [] = refl
same_most k (d ∷ ds) = same_most (with_one k d) ds

firsts : (k : KeptView) (ds : List Detail) → length k.first ≤ k.most + 1 → (with_all k ds).first ≡ take (k.most + 1) (k.first ++ ds)
firsts k [] few = rw append-nil (sym (take_all (k.most + 1) k.first few))
firsts k (d ∷ ds) few = on (nat_le (length k.first) k.most) refl (λ few. firsts (with_one k d) ds few) where
  on : (b : Bool) → nat_le (length k.first) k.most ≡ b
      → (length (with_one k d).first ≤ k.most + 1 → (with_all (with_one k d) ds).first ≡ take (k.most + 1) ((with_one k d).first ++ ds))
      → (with_all (with_one k d) ds).first ≡ take (k.most + 1) (k.first ++ d ∷ ds)
  on true fits go =
      let room : length k.first ≤ k.most = grind (arith, nat_tests, fits) in
      go (rw (fits, length-append) (omega (arith, room))) ∙ rw (fits, append_assoc) refl
  on false full go =
      let at : length k.first ≡ k.most + 1 = grind (arith, nat_tests, full, few) in
      go (rw full few) ∙ rw full (take-append-le (k.most + 1) k.first ds (omega (arith, at)) ∙ sym (take-append-le (k.most + 1) k.first (d ∷ ds) (omega (arith, at))))

pub all_listed : (frame : Option ℕ) (id : Option Id) (ds : List Detail) → length ds < 2 ^ 64 → listed_faults frame id (kept MOST_FAULTS ds) ≡ listed_from frame id MOST_FAULTS (length ds - MOST_FAULTS) (take (MOST_FAULTS + 1) ds)
all_listed frame id ds fits =
    let many : (kept MOST_FAULTS ds).count ≡ length ds = counted (nothing_kept MOST_FAULTS) ds (omega (arith, fits)) ∙ omega arith in
    rw (same_most (nothing_kept MOST_FAULTS) ds, many, firsts (nothing_kept MOST_FAULTS) ds (omega arith)) refl

-- A draft begins as all faults do.

one_alike : (frame : Option ℕ) (id : Option Id) (ds : List Detail) (ts us : List TextFault) → BeginAlike ts us → BeginAlike (listed_faults frame id (kept MOST_FAULTS ds) ++ ts) (map (fault_at frame id) ds ++ us)
one_alike frame id [] ts us alike = alike
one_alike frame id (d ∷ ds) ts us alike = let (more, held) = first_kept MOST_FAULTS d ds in rw held refl

all_alike : (i : ℕ) (ds : Items) → BeginAlike (elements_listed i ds) (elements_faults i ds)
all_alike i no_items = tt
all_alike i (item d ds) = one_alike (Some i) (element_of d).id (element_of d).details (elements_listed (i + 1) ds) (elements_faults (i + 1) ds) (all_alike (i + 1) ds)

pub begin_alike : (ms : Members) → BeginAlike (draft_of ms).faults (text_faults ms)
begin_alike ms =
    let es = elements (get_member (codes "frame") ms) in
    one_alike None None (top_of ms).details (elements_listed 0 es) (elements_faults 0 es) (all_alike 0 es)
