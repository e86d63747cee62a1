-- The list has a line for each frame of the base.
use Rattle.std.proofs.Common.{◌≡◌, ◌∙◌, ◌<◌, ℕ, zero, suc, Bool, true, false, cond, not, List, [], ◌∷◌, Option, Some, None, refl, sym, ap, subst, length, get_or, Contains, All, arith}
use Rattle.std.proofs.lemmas.List.{get_or_default}
use Rattle.std.proofs.lemmas.List.Elements.{All-contains, All-filter, All-contains_itself, filter_passes, Contains-append_right}
use Rattle.std.proofs.lemmas.List.Folds.{Any-from_list_any, list_any-from_Any}
use Rattle.std.specs.Prelude.{filter}
use Rattle.page_ids.specs.Ids.{Id, id_eq}
use Rattle.page_ids.specs.IdLaws.{id_eq_same, id_eq_refl}
use Rattle.frame_records.specs.declared.frame.Frame.{Frame}
use Rattle.frame_records.specs.declared.base.Sought.TheVariants.{Found}
use Rattle.frame_records.specs.declared.ways.Destination.TheVariants as way
use Rattle.frame_records.specs.Bases.{BaseView, frame_at}
use Rattle.frame_records.specs.Seek.{sought_of, seek, entry_of}
use Rattle.frame_records.specs.WayLaws.{going, found_sought}
use Rattle.finder.specs.declared.found.Discovered.{Discovered}
use Rattle.finder.specs.Finds.{FindsReached, Walk, IsReached}
use Rattle.audit_report.specs.Listing.{is_listed, others, HasRecord, ListsEveryFrame, AllAreListed}
use Rattle.page_ids.proofs.Truths.{not_so, not_true}

-- what passes a test is kept
kept_by : {X : Type 0} (b : Bool) (x y : X) (xs : List X) → Contains xs x → Contains (cond b (y ∷ xs) xs) x
kept_by true x y xs c = Contains-append_right (y ∷ []) xs x c
kept_by false x y xs c = c

kept_here : {X : Type 0} (b : Bool) (x y : X) (xs : List X) → b ≡ true → y ≡ x → Contains (cond b (y ∷ xs) xs) x
kept_here b x y xs e is = subst (λ (t : Bool). Contains (cond t (y ∷ xs) xs) x) (sym e) (0, omega arith, is)

kept_at : {X : Type 0} (p : X → Bool) (xs : List X) (x : X) (k : ℕ) → k < length xs → get_or xs k x ≡ x → p x ≡ true
    → Contains (filter p xs) x
kept_at p [] x k lt e h = absurd (omega arith)
kept_at p (y ∷ ys) x zero lt e h = kept_here (p y) x y (filter p ys) (ap p e ∙ h) e
kept_at p (y ∷ ys) x (suc k) lt e h = kept_by (p y) x y (filter p ys) (kept_at p ys x k (omega arith) e h)

kept : {X : Type 0} (p : X → Bool) (xs : List X) (x : X) → Contains xs x → p x ≡ true → Contains (filter p xs) x
kept p xs x c h = kept_at p xs x c.0 c.1 c.2 h

module _ (caller : List ℕ) (base : BaseView) where
  has_frame : (id : Id) (price : ℕ) (r : Option Frame) → frame_at base id ≡ r → sought_of caller r ≡ Found price
      → (f : Frame) × (frame_at base id ≡ Some f)
  has_frame id price None at e = absurd cc
  has_frame id price (Some f) at e = (f, at)

  -- a frame that a walk reaches has its record
  frame_of_walk : (n : ℕ) (id : Id) → (r : IsReached caller base id) → Walk caller base (entry_of base) id n
      → (f : Frame) × (frame_at base id ≡ Some f)
  frame_of_walk zero id r w = has_frame id r.entry.0 (frame_at base id) refl (subst (λ (x : Id). seek caller base x ≡ Found r.entry.0) w r.entry.1)
  frame_of_walk (suc n) id r w =
      let l = w.3 in
      let g = going caller base w.0 w.1 (way.Found id l.price) l.found (λ e. cc) in
      let s = found_sought base w.1 g.to (seek caller base g.to) id l.price g.comes in
      has_frame id l.price (frame_at base id) refl (subst (λ (x : Id). seek caller base x ≡ Found l.price) s.0 s.1)

  module _ (found : List Discovered) (finds : FindsReached caller base found) where
    listed : (id : Id) → IsReached caller base id → is_listed found id ≡ true
    listed id r =
        let a = (finds.reached id).0 r in
        list_any-from_Any (λ d. id_eq d.id id) found (a.0, a.1, a.2, a.3, ap (λ (x : Id). id_eq x id) a.4 ∙ id_eq_refl id)

    reached : (id : Id) → is_listed found id ≡ true → IsReached caller base id
    reached id e =
        let a = Any-from_list_any (λ d. id_eq d.id id) found e in
        (finds.reached id).1 (a.0, a.1, a.2, a.3, id_eq_same a.1.id id a.4)

    record_of : All (HasRecord base) found
    record_of k d lt =
        let at = get_or found k d in
        let r = (finds.reached at.id).1 (k, at, lt, get_or_default found k at d lt, refl) in
        frame_of_walk r.steps at.id r r.walk

    left_out : (f : Frame) → Contains (others found base.frames) f → Contains base.frames f × (IsReached caller base f.id → ⊥)
    left_out f c =
        let p = λ (g : Frame). not (is_listed found g.id) in
        let inside = All-contains (Contains base.frames) (others found base.frames) f (All-filter p (Contains base.frames) base.frames (All-contains_itself base.frames)) c in
        let passes = All-contains (λ g. p g ≡ true) (others found base.frames) f (filter_passes p base.frames) c in
        (inside, λ r. not_true (is_listed found f.id) passes (listed f.id r))

    taken : (f : Frame) → Contains base.frames f × (IsReached caller base f.id → ⊥) → Contains (others found base.frames) f
    taken f h = kept (λ g. not (is_listed found g.id)) base.frames f h.0 (not_so (is_listed found f.id) (λ e. h.1 (reached f.id e)))

    listing : ListsEveryFrame caller base found
    listing = record { records = record_of; reached = λ id. (listed id, reached id); unreached = λ f. (left_out f, taken f) }

pub all_listed : AllAreListed
all_listed caller base found finds = listing caller base found finds
