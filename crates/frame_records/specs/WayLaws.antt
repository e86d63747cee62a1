-- Facts of bases and of their ways.
use Rattle.std.proofs.Common.{◌≡◌, ℕ, true, false, eqb, List, [], ◌∷◌, None, refl, subst, ◌≢◌, ◌<◌, ◌⊎◌, inl, inr, Bool, cond, Option, Some, option_map, sym, ◌∙◌, ap, arith}
use Rattle.std.specs.Prelude.{Contains, nat_lt, slice_index_or}
use Rattle.std.proofs.lemmas.Bool.{eqb-true, or_parts}
use Rattle.std.proofs.lemmas.List.Folds.{Any-from_list_any}
use Rattle.page_ids.specs.Ids.{Id, id_eq, first_frame}
use Rattle.frame_records.specs.declared.frame.Frame.{Frame}
use Rattle.frame_records.specs.Bases.{BaseView, frame_among, lists_page, has_page, AreApart, NoneInside, frame_at, lists_outside}
use Rattle.std.proofs.lemmas.Bool.Decides.{nat_tests}
use Rattle.page_ids.specs.IdLaws.{id_eq_same}
use Rattle.page_ids.specs.declared.way.Way.{Way}
use Rattle.page_ids.specs.declared.way.Way.TheVariants.{Route, Next}
use Rattle.page_ids.specs.Ways.{way_at, way_place}
use Rattle.frame_records.specs.declared.base.Sought as seeking
use Rattle.frame_records.specs.declared.base.Sought.TheVariants as found
use Rattle.frame_records.specs.declared.ways.Destination.{Destination}
use Rattle.frame_records.specs.declared.ways.Destination.TheVariants.{NotOffered, Found, Missing, Outside}
use Rattle.frame_records.specs.Seek.{seek}
use Rattle.frame_records.specs.Ways.{sought, missing_by, sought_by, offered_by, destination_by, destination}

-- Laws of bases.

-- a listed page is among the pages
pub contains_listed : (pages : List ℕ) (page : ℕ) → lists_page pages page ≡ true → Contains pages page
contains_listed pages page e =
    let a = Any-from_list_any (λ p. eqb p page) pages e in
    subst (λ (p : ℕ). Contains pages p) (eqb-true a.1 page a.4) (a.0, a.2, a.3)

-- a page without frames has no frame of any letter
pub no_frame : (frames : List Frame) (id : Id) → has_page frames id.page ≡ false → frame_among frames id ≡ None
no_frame [] id h = refl
no_frame (f ∷ fs) id h =
    let n = or_parts (eqb f.id.page id.page) (has_page fs id.page) h in
    let other : id_eq f.id id ≡ false = rw n.0 refl in
    rw other (no_frame fs id n.1)

-- if no outside page has a frame, outside pages and frames are apart
pub apart_from_none : (base : BaseView) → NoneInside base.outside base.frames → AreApart base
apart_from_none base none id out = no_frame base.frames id (none id.page (contains_listed base.outside id.page out))

-- Laws of the ways of a frame.

among_by : (b : Bool) (f g : Frame) (o : Option Frame) → cond b (Some f) o ≡ Some g → ((b ≡ true) × (f ≡ g)) ⊎ (o ≡ Some g)
among_by true f g o e = inl (refl, cc)
among_by false f g o e = inr e

-- the frame of an id has that id
pub frame_id : (frames : List Frame) (id : Id) (f : Frame) → frame_among frames id ≡ Some f → f.id ≡ id
frame_id [] id f e = cc
frame_id (g ∷ frames) id f e =
    elim (among_by (id_eq g.id id) g f (frame_among frames id) e) [
      | inl w ↦ subst (λ (x : Frame). x.id ≡ id) w.1 (id_eq_same g.id id w.0)
      | inr w ↦ frame_id frames id f w
    ]

-- only a digit has a route
digit_by : (f : Frame) (digit : ℕ) (to : Id) (b : Bool) → nat_lt digit 10 ≡ b → option_map first_frame (cond b (slice_index_or f.routes digit None) None) ≡ Some to → digit < 10
digit_by f digit to true e h = grind (arith, nat_tests)
digit_by f digit to false e h = cc

route_at : (digit : ℕ) → digit < 10 → way_at digit ≡ Route digit
route_at digit lt = let is : nat_lt digit 10 ≡ true = grind (arith, nat_tests, lt) in rw is refl

-- a way that is offered is one of the eleven
pub offered_place : (f : Frame) (way : Way) (to : Id) → sought f way ≡ Some to → (way_place way < 11) × (way_at (way_place way) ≡ way)
offered_place f (Route digit) to e =
    let lt = digit_by f digit to (nat_lt digit 10) refl e in
    (omega (arith, lt), route_at digit lt)
offered_place f Next to e = (omega arith, refl)

-- a way leads where its frame and the id that it seeks lead
pub goes : (caller : List ℕ) (base : BaseView) (f : Id) (frame : Frame) (way : Way) (to : Id) → frame_at base f ≡ Some frame → sought frame way ≡ Some to → destination caller base f way ≡ sought_by base way to (seek caller base to)
goes caller base f frame way to there offered = ap (destination_by caller base way) there ∙ ap (offered_by caller base way) offered

-- a way that is offered has a frame, and seeks an id
pub record IsGoing (caller : List ℕ) (base : BaseView) (f : Id) (way : Way) (d : Destination) : Type 0 where
  pub frame : Frame
  pub to : Id
  pub there : frame_at base f ≡ Some frame
  pub offered : sought frame way ≡ Some to
  pub comes : sought_by base way to (seek caller base to) ≡ d

pub going : (caller : List ℕ) (base : BaseView) (f : Id) (way : Way) (d : Destination) → destination caller base f way ≡ d → d ≢ NotOffered → IsGoing caller base f way d
going caller base f way d is other = by (frame_at base f) refl is where
  offered : (frame : Frame) → frame_at base f ≡ Some frame → (o : Option Id) → sought frame way ≡ o → offered_by caller base way o ≡ d → IsGoing caller base f way d
  offered frame there None e h = absurd (other (sym h))
  offered frame there (Some to) e h = record { frame = frame; to = to; there = there; offered = e; comes = h }

  by : (o : Option Frame) → frame_at base f ≡ o → destination_by caller base way o ≡ d → IsGoing caller base f way d
  by None e h = absurd (other (sym h))
  by (Some frame) e h = offered frame e (sought frame way) refl h

missing_other : (base : BaseView) (way : Way) (to g : Id) (price : ℕ) → missing_by base way to ≡ Found g price → ⊥
missing_other base (Route digit) to g price h = by (lists_outside base to.page) h where
  by : (b : Bool) → cond b (Outside to.page) (Missing to) ≡ Found g price → ⊥
  by true e = cc
  by false e = cc
missing_other base Next to g price h = cc

-- what is found was sought
pub found_sought : (base : BaseView) (way : Way) (to : Id) (s : seeking.Sought) (g : Id) (price : ℕ) → sought_by base way to s ≡ Found g price → (to ≡ g) × (s ≡ found.Found price)
found_sought base way to (found.Found cost) g price h = (cc, cc)
found_sought base way to found.Closed g price h = cc
found_sought base way to found.Missing g price h = absurd (missing_other base way to g price h)
