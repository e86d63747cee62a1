-- If there is no fault, the rows of the discovered frames make a good certificate.
use Rattle.std.proofs.Common.{◌≡◌, ◌<◌, ◌≤◌, inl, inr, ℕ, zero, suc, true, false, List, get_or, Option, Some, None, is_some, slice_get, refl, sym, ◌∙◌, ap, subst, arith}
use Rattle.std.specs.Prelude.{◌↔◌, Contains}
use Rattle.std.proofs.lemmas.List.Elements.{Contains-get_or, recursion_from_All}
use Rattle.std.proofs.lemmas.Option.{same_Some}
use Rattle.page_ids.specs.Ids.{Id, id_eq}
use Rattle.page_ids.specs.IdLaws.{id_eq_same, id_eq_refl}
use Rattle.page_ids.specs.declared.way.Way.{Way}
use Rattle.page_ids.specs.declared.way.Way.TheVariants.{Route, Next}
use Rattle.frame_records.specs.declared.frame.Frame.{Frame}
use Rattle.frame_records.specs.declared.ways.Destination.TheVariants as way
use Rattle.frame_records.specs.Bases.{BaseView, frame_at}
use Rattle.frame_records.specs.Seek.{seek, entry_of}
use Rattle.frame_records.specs.Ways.{sought, Leads}
use Rattle.frame_records.specs.WayLaws.{going, found_sought}
use Rattle.frame_records.proofs.Finds.{first_found, none_found}
use Rattle.abstract_paint.proofs.Exact.{is_exact}
use Rattle.cert_table.specs.declared.row.Row.{Row}
use Rattle.cert_table.specs.Table.{row_among, CertView}
use Rattle.checker.specs.declared.policy.Policy.{Policy}
use Rattle.checker.specs.Good.{Good, IsGoodRow, LeadsDown, LeadsOn, is_row_of}
use Rattle.finder.specs.declared.found.Discovered.{Discovered}
use Rattle.finder.specs.Finds.{IsFinding, Walk, EntryIsFound, IsReached}
use Rattle.fault_scripts.proofs.Discoveries.{reached_listed}
use Rattle.fault_scripts.proofs.Rows.{row_with, IsRowOf, gathered, row_in, row_from}
use Rattle.fault_scripts.proofs.Sound.{IsSound, GoesOn}

-- the certificate of these rows
abbrev pub certificate : BaseView → ℕ → ℕ → List ℕ → List Row → CertView
certificate base ceiling keyings groups rows = record { entry = base.entry; ceiling = ceiling; keyings = keyings; groups = groups; rows = rows }

-- the id of a row is covered
pub contained_covered : (rows : List Row) (row : Row) → Contains rows row → is_row_of rows row.id ≡ true
contained_covered rows row h = by (row_among rows row.id) refl where
  by : (o : Option Row) → row_among rows row.id ≡ o → is_some o ≡ true
  by (Some r) e = refl
  by None e =
      let fails : id_eq (get_or rows h.0 row).id row.id ≡ false = none_found (λ r. id_eq r.id row.id) rows e h.0 row h.1 in
      let passes : id_eq (get_or rows h.0 row).id row.id ≡ true = ap (λ (r : Row). id_eq r.id row.id) h.2 ∙ id_eq_refl row.id in
      let clash : true ≡ false = sym passes ∙ fails in
      absurd cc

-- the row of a covered id
pub covered_row : (rows : List Row) (id : Id) → is_row_of rows id ≡ true
    → (row : Row) × (row_among rows id ≡ Some row) × Contains rows row × (row.id ≡ id)
covered_row rows id h = by (row_among rows id) refl h where
  by : (o : Option Row) → row_among rows id ≡ o → is_some o ≡ true
      → (row : Row) × (row_among rows id ≡ Some row) × Contains rows row × (row.id ≡ id)
  by None e covered = absurd cc
  by (Some row) e covered =
      let p = first_found (λ r. id_eq r.id id) rows row e in
      (row, e, (p.0, p.1.within, p.1.at row), id_eq_same row.id id p.1.passes)

module _ (caller : List ℕ) (base : BaseView) where
  -- a walk's first step
  first_step : (n : ℕ) (f g : Id) → Walk caller base f g (suc n)
      → (h : Id) × (w : Way) × Leads caller base f w h × Walk caller base h g n
  first_step zero f g walk =
      let on : Leads caller base f walk.1 g = subst (λ (x : Id). Leads caller base x walk.1 g) (sym walk.2) walk.3 in
      let there : Walk caller base g g zero = refl in
      (g, walk.1, on, there)
  first_step (suc n) f g walk =
      let r = first_step n f walk.0 walk.2 in
      let rest : Walk caller base r.0 g (suc n) = (walk.0, walk.1, r.3, walk.3) in
      (r.0, r.1, r.2, rest)

  -- a way that leads on is offered
  offered_lead : (f g : Id) (frame : Frame) (w : Way) → frame_at base f ≡ Some frame → Leads caller base f w g
      → sought frame w ≡ Some g
  offered_lead f g frame w at l =
      let t = going caller base f w (way.Found g l.price) l.found (λ e. cc) in
      let same : t.frame ≡ frame = same_Some t.frame frame (sym t.there ∙ at) in
      let to = (found_sought base w t.to (seek caller base t.to) g l.price t.comes).0 in
      subst (λ (x : Frame). sought x w ≡ Some g) same (t.offered ∙ ap Some to)

module _ (base : BaseView) (policy : Policy) (found : List Discovered) (finding : IsFinding policy.groups base found) (sound : (i : ℕ) (d : Discovered) → slice_get found i ≡ Some d → IsSound base policy d) (rows : List Row) (same : (row : Row) → Contains rows row ↔ Contains (gathered base policy found sound) row) where
  -- each row is a discovered frame's
  pub row_is : (row : Row) → Contains rows row → IsRowOf base policy found row
  row_is row h = row_from base policy found sound row ((same row).0 h)

  -- each discovered frame has its own
  pub row_there : (i : ℕ) (d : Discovered) → slice_get found i ≡ Some d → (s : IsSound base policy d)
      → Contains rows (row_with d.id s.rank s.cursor)
  row_there i d listed s = (same (row_with d.id s.rank s.cursor)).1 (row_in base policy found sound i d listed s)

  -- each reached frame is covered
  pub reached_covered : (id : Id) → IsReached policy.groups base id → is_row_of rows id ≡ true
  reached_covered id reached =
      let l = reached_listed policy.groups base found finding id reached in
      let s = sound l.0 l.1 l.2 in
      subst (λ (x : Id). is_row_of rows x ≡ true) l.3 (contained_covered rows (row_with l.1.id s.rank s.cursor) (row_there l.0 l.1 l.2 s))

  leads_reached : (id to : Id) (w : Way) → IsReached policy.groups base id → Leads policy.groups base id w to
      → IsReached policy.groups base to
  leads_reached id to w r l = record { steps = suc r.steps; entry = r.entry; walk = (id, w, r.walk, l) }

  -- the row of a discovered frame is right
  module _ (d : Discovered) (s : IsSound base policy d) where
    on_by : (w : Way) (to : Id) → GoesOn policy.groups base d.id w to → LeadsOn base rows w to
    on_by (Route digit) to (inl l) = inr (reached_covered to (leads_reached d.id to (Route digit) s.reached l))
    on_by (Route digit) to (inr outside) = inl outside
    on_by Next to l = reached_covered to (leads_reached d.id to Next s.reached l)

    -- the first frame on the shortest walk home is covered, and nearer
    down_by : (n : ℕ) → s.rank ≡ n → 0 < n → LeadsDown rows s.frame s.rank
    down_by zero is some = absurd (omega (arith, some))
    down_by (suc n) is some =
        let w = first_step policy.groups base n d.id (entry_of base) (subst (λ (m : ℕ). Walk policy.groups base d.id (entry_of base) m) is s.distance.walk) in
        let c = covered_row rows w.0 (reached_covered w.0 (leads_reached d.id w.0 w.1 s.reached w.2)) in
        let r = row_is c.0 c.2 in
        let own : r.discovered.id ≡ w.0 = sym (ap (λ (x : Row). x.id) r.is) ∙ c.3 in
        let rest : Walk policy.groups base r.discovered.id (entry_of base) n = subst (λ (x : Id). Walk policy.groups base x (entry_of base) n) (sym own) w.3 in
        record {
          way = w.1;
          to = w.0;
          row = c.0;
          offered = offered_lead policy.groups base d.id w.0 s.frame w.1 s.of_frame w.2;
          covered = c.1;
          lower = omega (arith, is, ap (λ (x : Row). x.rank) r.is, r.sound.distance.least n rest);
        }

    good_row : (ceiling keyings : ℕ) → s.frame.price ≤ ceiling → s.rank ≤ keyings
        → IsGoodRow policy.groups base (certificate base ceiling keyings policy.groups rows) d.id s.rank s.cursor
    good_row ceiling keyings price most =
        let p = ((is_exact s.frame.lead s.frame.body).clean s.cursor).0 s.painted in
        record {
          frame = s.frame;
          found = s.of_frame;
          admitted = s.opened;
          price = price;
          most = most;
          clean = p.0;
          ends = p.1;
          ways = λ w to offered. on_by w to (s.ways w to offered);
          zero = λ is. subst (λ (m : ℕ). Walk policy.groups base d.id (entry_of base) m) is s.distance.walk;
          down = λ some. down_by s.rank refl some;
        }

  -- with a ceiling and keyings that no frame passes, which the policy allows
  pub good : (ceiling keyings : ℕ) → EntryIsFound policy.groups base → ceiling ≤ policy.ceiling
      → keyings ≤ policy.keyings
      → ((row : Row) (r : IsRowOf base policy found row) → (r.sound.frame.price ≤ ceiling) × (r.sound.rank ≤ keyings))
      → Good base policy (certificate base ceiling keyings policy.groups rows)
  good ceiling keyings entry low near most =
      let cert = certificate base ceiling keyings policy.groups rows in
      record {
        entry = refl;
        ceiling = low;
        keyings = near;
        groups = refl;
        covered = reached_covered (entry_of base) (record { steps = 0; entry = entry; walk = refl });
        rows = recursion_from_All (λ r. IsGoodRow policy.groups base cert r.id r.rank r.cursor) rows (λ k d lt.
            let r = row_is (get_or rows k d) (Contains-get_or rows k d lt) in
            let m = most (get_or rows k d) r in
            subst (λ (x : Row). IsGoodRow policy.groups base cert x.id x.rank x.cursor) (sym r.is) (good_row r.discovered r.sound ceiling keyings m.0 m.1));
      }
