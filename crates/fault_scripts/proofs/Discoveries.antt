-- What each discovered frame is: reached, found, with its record, its price and its rank; and each reached frame is listed, once.
use Rattle.std.proofs.Common.{◌≡◌, ◌<◌, ℕ, zero, suc, inl, inr, List, Bool, true, false, cond, Option, Some, None, slice_get, refl, sym, ◌∙◌, ap, subst, arith}
use Rattle.std.proofs.lemmas.Bool.{cases_lt}
use Rattle.std.proofs.lemmas.Option.{slice_get_within, get_or_from_slice_get}
use Rattle.page_ids.specs.Ids.{Id}
use Rattle.page_ids.specs.declared.way.Way.{Way}
use Rattle.frame_records.specs.declared.frame.Frame.{Frame}
use Rattle.frame_records.specs.declared.base.Sought.TheVariants.{Found, Closed}
use Rattle.frame_records.specs.declared.ways.Destination.TheVariants as way
use Rattle.frame_records.specs.Bases.{BaseView, frame_at}
use Rattle.frame_records.specs.Seek.{is_open, sought_of, seek, entry_of}
use Rattle.frame_records.specs.Ways.{Leads}
use Rattle.frame_records.specs.WayLaws.{going, found_sought}
use Rattle.finder.specs.declared.found.Discovered.{Discovered}
use Rattle.finder.specs.Finds.{Walk, IsRank, IsReached, IsFinding}
use Rattle.finder.proofs.Lists.{all_at, at_contains}
use Rattle.fault_scripts.proofs.Lists.{place_of}

-- the record of an id that is found
pub record HasRecord (caller : List ℕ) (base : BaseView) (id : Id) (price : ℕ) : Type 0 where
  pub frame : Frame
  pub of_frame : frame_at base id ≡ Some frame
  pub priced : frame.price ≡ price
  pub opened : is_open caller frame ≡ true

pub found_record : (caller : List ℕ) (base : BaseView) (id : Id) (price : ℕ) → seek caller base id ≡ Found price
    → HasRecord caller base id price
found_record caller base id price e = by (frame_at base id) refl e where
  opened : (frame : Frame) → frame_at base id ≡ Some frame → (b : Bool) → is_open caller frame ≡ b
      → cond b (Found frame.price) Closed ≡ Found price → HasRecord caller base id price
  opened frame at true o f = record { frame = frame; of_frame = at; priced = cc; opened = o }
  opened frame at false o f = absurd cc

  by : (r : Option Frame) → frame_at base id ≡ r → sought_of caller r ≡ Found price → HasRecord caller base id price
  by None at f = absurd cc
  by (Some frame) at f = opened frame at (is_open caller frame) refl f

-- what a way leads to is found
pub leads_found : (caller : List ℕ) (base : BaseView) (f g : Id) (way : Way) (l : Leads caller base f way g)
    → seek caller base g ≡ Found l.price
leads_found caller base f g through l =
    let w = going caller base f through (way.Found g l.price) l.found (λ e. cc) in
    let s = found_sought base through w.to (seek caller base w.to) g l.price w.comes in
    subst (λ (x : Id). seek caller base x ≡ Found l.price) s.0 s.1

reached_found : (caller : List ℕ) (base : BaseView) (id : Id) → IsReached caller base id
    → (price : ℕ) × (seek caller base id ≡ Found price)
reached_found caller base id r = by r.steps id r.walk where
  by : (n : ℕ) (id : Id) → Walk caller base (entry_of base) id n → (price : ℕ) × (seek caller base id ≡ Found price)
  by zero id w = subst (λ (x : Id). (price : ℕ) × (seek caller base x ≡ Found price)) w r.entry
  by (suc n) id w = (w.3.price, leads_found caller base w.0 id w.1 w.3)

-- a discovered frame
pub record IsDiscovered (caller : List ℕ) (base : BaseView) (d : Discovered) : Type 0 where
  pub frame : Frame
  pub reached : IsReached caller base d.id
  pub of_frame : frame_at base d.id ≡ Some frame
  pub opened : is_open caller frame ≡ true
  pub rank : IsRank caller base d.id d.rank

module _ (caller : List ℕ) (base : BaseView) (found : List Discovered) (finding : IsFinding caller base found) where
  -- each discovered frame is one
  pub listed_frame : (i : ℕ) (d : Discovered) → slice_get found i ≡ Some d → IsDiscovered caller base d
  listed_frame i d at =
      let here = at_contains found i d at in
      let reached = (finding.reached.reached d.id).1 (here.0, d, here.1, here.2, refl) in
      let p = reached_found caller base d.id reached in
      let r = found_record caller base d.id p.0 p.1 in
      record {
        frame = r.frame;
        reached = reached;
        of_frame = r.of_frame;
        opened = r.opened;
        rank = all_at (λ (x : Discovered). IsRank caller base x.id x.rank) found i d finding.ranks at;
      }

  -- each reached frame is discovered
  pub reached_listed : (id : Id) → IsReached caller base id
      → (i : ℕ) × (d : Discovered) × (slice_get found i ≡ Some d) × (d.id ≡ id)
  reached_listed id r =
      let l = (finding.reached.reached id).0 r in
      (l.0, l.1, place_of found l.1 (l.0, l.2, l.3), l.4)

  other : (i j : ℕ) (d e : Discovered) → i < j → slice_get found i ≡ Some d → slice_get found j ≡ Some e → d.id ≡ e.id
      → ⊥
  other i j d e lt at to same =
      let differ = finding.reached.once i j d lt (slice_get_within found j e to) in
      differ (ap (λ (x : Discovered). x.id) (get_or_from_slice_get found i d d at) ∙ same ∙ sym (ap (λ (x : Discovered). x.id) (get_or_from_slice_get found j e d to)))

  -- once
  pub listed_once : (i j : ℕ) (d e : Discovered) → slice_get found i ≡ Some d → slice_get found j ≡ Some e → d.id ≡ e.id
      → i ≡ j
  listed_once i j d e at to same =
      elim (cases_lt i j) [
        | inl l ↦ absurd (other i j d e l at to same)
        | inr ge ↦
            elim (cases_lt j i) [
              | inl l ↦ absurd (other j i e d l to at (sym same))
              | inr le ↦ omega (arith, ge, le)
            ]
      ]
