-- Each test decides what its condition says. So the verdict is Cleared if the certificate is good, and else names the first
-- condition that fails.
use Rattle.std.proofs.Common.{◌≡◌, ℕ, ◌<◌, true, false, ◌==◌, List, get_or, length, Option, Some, None, refl, sym, ◌∙◌, ap, subst, arith}
use Rattle.std.specs.Prelude.{◌↔◌, nat_lt}
use Rattle.std.specs.Bool.{Decides}
use Rattle.std.specs.List.{AllByRecursion}
use Rattle.std.proofs.lemmas.Bool.Decides.{nat_tests, Decides-eqb, Decides-ltb, Decides-and, Decides-or, Decides-at, Decides-like}
use Rattle.std.proofs.lemmas.Slice.Eq.{bytes_eq-Decides}
use Rattle.std.proofs.lemmas.List.Folds.{Any-from_list_any, list_any_at}
use Rattle.page_ids.specs.Ids.{Id, id_eq}
use Rattle.page_ids.specs.IdLaws.{id_eq_same, id_eq_refl}
use Rattle.page_ids.specs.declared.way.Way.{Way}
use Rattle.page_ids.specs.declared.way.Way.TheVariants.{Route, Next}
use Rattle.page_ids.specs.Ways.{ways, way_place}
use Rattle.page_ids.specs.WayLaws.{ways_length, ways_at}
use Rattle.frame_records.specs.declared.frame.Frame.{Frame}
use Rattle.frame_records.specs.Bases.{BaseView, frame_at}
use Rattle.frame_records.specs.Seek.{is_open, entry_of}
use Rattle.frame_records.specs.Ways.{sought}
use Rattle.frame_records.specs.WayLaws.{offered_place}
use Rattle.abstract_paint.specs.declared.cursor.AbsCursor.{AbsCursor}
use Rattle.abstract_paint.specs.declared.cursor.Place.{Place}
use Rattle.abstract_paint.specs.declared.cursor.Place.TheVariants.{Any, Col, Spot}
use Rattle.abstract_paint.specs.declared.cursor.Pend.{Pend}
use Rattle.abstract_paint.specs.declared.cursor.Pend.TheVariants.{No, Yes, Maybe}
use Rattle.abstract_paint.specs.declared.painting.Painted.{Painted}
use Rattle.abstract_paint.specs.declared.painting.Painted.TheVariants.{Clean, Touches}
use Rattle.abstract_paint.specs.Paint.{Ends, paint_of}
use Rattle.abstract_paint.proofs.Exact.{is_exact}
use Rattle.terminal_codes.specs.Bodies.{IsClean}
use Rattle.cert_table.specs.declared.row.Row.{Row}
use Rattle.cert_table.specs.Table.{row_among, CertView}
use Rattle.checker.specs.declared.policy.Policy.{Policy}
use Rattle.checker.specs.declared.verdict.Cause.{Cause}
use Rattle.checker.specs.declared.verdict.Cause.TheVariants as cause
use Rattle.checker.specs.declared.verdict.Verdict.{Verdict}
use Rattle.checker.specs.declared.verdict.Verdict.TheVariants.{Cleared, Refused}
use Rattle.checker.specs.Conditions.{each}
use Rattle.checker.specs.Good.{Good, IsGoodRow, LeadsDown, LeadsOn, WaysLeadOn, is_row_of}
use Rattle.checker.specs.Verdict.{same_place, same_pend, same_cursor, goes_on, offered_on, lost_cause, rank_below, offered_down, way_down, is_down, on_terms, on_head, on_frame, on_touches, touched, ends_at, on_painting, on_way, on_ways, on_frame_of_row, if_found, on_row, on_rows, conditions, verdict_of, verdict}
use Rattle.checker.proofs.Conditions.{Agrees, by_test, by_words, by_pass, by_limit, by_both_tests, in_turn, for_each, each_all, each_at, each_of}

-- K1 to K3 and K15
terms_agree : (base : BaseView) (policy : Policy) (cert : CertView) → Agrees (on_terms base policy cert)
terms_agree base policy cert =
    in_turn (by_test _ cause.EntryDiffers (Decides-eqb cert.entry base.entry)) (λ _.
    in_turn (by_limit cert.ceiling policy.ceiling cause.CeilingAbove) (λ _.
    in_turn (by_limit cert.keyings policy.keyings cause.KeyingsAbove) (λ _.
    by_test _ cause.GroupsDiffer (bytes_eq-Decides policy.groups cert.groups))))

-- those, and K4
head_agrees : (base : BaseView) (policy : Policy) (cert : CertView) → Agrees (on_head base policy cert)
head_agrees base policy cert = in_turn (terms_agree base policy cert) (λ _. by_pass (is_row_of cert.rows (entry_of base)) cause.EntryNotCovered)

-- K6, K7 and K8
frame_agrees : (caller : List ℕ) (cert : CertView) (row : Row) (f : Frame) → Agrees (on_frame caller cert row f)
frame_agrees caller cert row f =
    in_turn (by_pass (is_open caller f) (cause.ClosedFrame row.id)) (λ _.
    in_turn (by_limit f.price cert.ceiling (cause.Price row.id)) (λ _.
    by_limit row.rank cert.keyings (cause.RankAbove row.id)))

place_is : (x y : Place) → Decides (same_place x y) (x ≡ y)
place_is Any Any = (λ _. refl, λ _. refl)
place_is (Col c) (Col d) = (λ h. ap Col (grind (arith, nat_tests)), λ e. let same : c ≡ d = cc in grind (arith, nat_tests))
place_is (Spot s) (Spot t) = (λ h. ap Spot (grind (arith, nat_tests)), λ e. let same : s ≡ t = cc in grind (arith, nat_tests))
place_is _ _ = (λ h. cc, λ e. cc)

pend_is : (x y : Pend) → Decides (same_pend x y) (x ≡ y)
pend_is No No = (λ _. refl, λ _. refl)
pend_is Yes Yes = (λ _. refl, λ _. refl)
pend_is Maybe Maybe = (λ _. refl, λ _. refl)
pend_is _ _ = (λ h. cc, λ e. cc)

abbrev cursor_with : Place → Pend → AbsCursor
cursor_with place pend = record { place = place; pend = pend }

same_parts : (p q : Place) (d e : Pend) → p ≡ q → d ≡ e → cursor_with p d ≡ cursor_with q e
same_parts p q d e h k = cc

cursor_is : (x y : AbsCursor) → Decides (same_cursor x y) (x ≡ y)
cursor_is x y =
    Decides-like _ (λ b. same_parts x.place y.place x.pend y.pend b.0 b.1) (λ e. (ap (λ (c : AbsCursor). c.place) e, ap (λ (c : AbsCursor). c.pend) e))
    (Decides-and _ _ (place_is x.place y.place) (pend_is x.pend y.pend))

-- K9 and K10
touches_agrees : (row : Row) (f : Frame) → Agrees (on_touches row f)
touches_agrees row f = by (paint_of f.lead f.body) refl where
  by : (p : Painted) → paint_of f.lead f.body ≡ p → Agrees (record (on_touches row f) { first_cause = touched row.id p })
  by (Clean end) is = record {
    none = (λ _. (((is_exact f.lead f.body).clean end).0 is).0, λ _. refl);
    some = λ c. (λ h. cc, λ h. let e = ((is_exact f.lead f.body).touches h.0).1 h.2 in cc);
  }
  by (Touches offset) is = record {
    none = (λ h. cc, λ clean. let e = ((is_exact f.lead f.body).some_cursor clean).1 in cc);
    some = λ c. (λ h. (offset, cc, ((is_exact f.lead f.body).touches offset).0 is), λ h. let e = ((is_exact f.lead f.body).touches h.0).1 h.2 in cc);
  }

ends_as : (row : Row) (f : Frame) → IsClean f.lead f.body → Decides (ends_at row.cursor (paint_of f.lead f.body)) (Ends f.lead f.body row.cursor)
ends_as row f clean =
    let exact = is_exact f.lead f.body in
    let end = exact.some_cursor clean in
    let is = end.1 in
    Decides-at _ (same_cursor end.0 row.cursor) (ap (ends_at row.cursor) is)
    (Decides-like _ (λ e. subst (λ (x : AbsCursor). Ends f.lead f.body x) e ((exact.clean end.0).0 is).1) (λ ends. let other = (exact.clean row.cursor).1 (clean, ends) in cc) (cursor_is end.0 row.cursor))

painting_agrees : (row : Row) (f : Frame) → Agrees (on_painting row f)
painting_agrees row f = in_turn (touches_agrees row f) (λ clean. by_test _ (cause.CursorDiffers row.id) (ends_as row f clean))

module _ (base : BaseView) (rows : List Row) where
  -- K11 and K12
  goes : (way : Way) (to : Id) → Decides (goes_on base rows way to) (LeadsOn base rows way to)
  goes (Route digit) to = Decides-or _ _ (λ h. h, λ h. h) (λ h. h, λ h. h)
  goes Next to = (λ h. h, λ h. h)

  leads : (way : Way) (o : Option Id) → Decides (offered_on base rows way o) ((to : Id) → o ≡ Some to → LeadsOn base rows way to)
  leads way None = (λ h to e. cc, λ _. refl)
  leads way (Some to) = (λ h other e. let same : to ≡ other = cc in subst (λ (id : Id). LeadsOn base rows way id) same ((goes way to).0 h), λ all. (goes way to).1 (all to refl))

  lost : (way : Way) (o : Option Id) → ((to : Id) × (o ≡ Some to) × (LeadsOn base rows way to → ⊥)) ↔ (((to : Id) → o ≡ Some to → LeadsOn base rows way to) → ⊥)
  lost way None = (λ h. let e = h.1 in cc, λ no. absurd (no (λ to e. cc)))
  lost way (Some to) = (λ h all. h.2 (all h.0 h.1), λ no. (to, refl, λ on. no (λ other e. let same : to ≡ other = cc in subst (λ (id : Id). LeadsOn base rows way id) same on)))

  -- K14
  below : (rank : ℕ) (o : Option Row) → Decides (rank_below rank o) ((r : Row) × (o ≡ Some r) × (r.rank < rank))
  below rank None = (λ h. cc, λ h. let e = h.1 in cc)
  below rank (Some row) = (λ h. (row, refl, grind (arith, nat_tests)), λ h. let same : row ≡ h.0 = cc in let is : row.rank ≡ h.0.rank = ap (λ (r : Row). r.rank) same in let less = h.2 in grind (arith, nat_tests))

  down_by : (f : Frame) (rank : ℕ) (way : Way) (o : Option Id) → sought f way ≡ o → offered_down rows rank o ≡ true → LeadsDown rows f rank
  down_by f rank way None is h = cc
  down_by f rank way (Some to) is h =
      let r = (below rank (row_among rows to)).0 h in
      record { way = way; to = to; row = r.0; offered = is; covered = r.1; lower = r.2 }

  way_here : (f : Frame) (way : Way) (to : Id) → sought f way ≡ Some to → (way_place way < length ways) × (get_or ways (way_place way) way ≡ way)
  way_here f way to e = let place = offered_place f way to e in (omega (arith, ways_length, place.0), ways_at (way_place way) way place.0 ∙ place.1)

  down_is : (f : Frame) (rank : ℕ) → Decides (is_down rows rank f) (LeadsDown rows f rank)
  down_is f rank = (λ h. let a = Any-from_list_any (way_down rows rank f) ways h in down_by f rank a.1 (sought f a.1) refl a.4, by) where
    by : LeadsDown rows f rank → is_down rows rank f ≡ true
    by d =
        let here = way_here f d.way d.to d.offered in
        let passes = (below rank (row_among rows d.to)).1 (d.row, d.covered, d.lower) in
        list_any_at (way_down rows rank f) ways (way_place d.way) d.way here.0 (ap (way_down rows rank f) here.1 ∙ ap (offered_down rows rank) d.offered ∙ passes)

  id_is : (a b : Id) → Decides (id_eq a b) (a ≡ b)
  id_is a b = (id_eq_same a b, λ e. ap (λ (i : Id). id_eq a i) (sym e) ∙ id_eq_refl a)

  -- K11 to K14
  ways_agree : (row : Row) (f : Frame) → Agrees (on_ways base rows row f)
  ways_agree row f =
      in_turn (for_each (on_way base rows row f) (λ way. by_words _ (lost_cause row.id way) (leads way (sought f way)) (lost way (sought f way))) ways) (λ _.
      in_turn (by_both_tests (row.rank == 0) _ (cause.RankZero row.id) (Decides-eqb row.rank 0) (id_is row.id (entry_of base))) (λ _.
      by_both_tests (nat_lt 0 row.rank) _ (cause.NoWayDown row.id) (Decides-ltb 0 row.rank) (down_is f row.rank)))

  -- the eleven ways are all ways that a frame offers
  ways_lead : (row : Row) (f : Frame) → (each (on_way base rows row f) ways).Holds ↔ WaysLeadOn base rows f
  ways_lead row f = (λ h way to e. let here = way_here f way to e in subst (λ (w : Way). (on_way base rows row f w).Holds) here.1 (each_at (on_way base rows row f) ways h (way_place way) way here.0) to e, λ all. each_of (on_way base rows row f) (λ way. all way) ways)

module _ (caller : List ℕ) (base : BaseView) (cert : CertView) where
  -- K5, then K6 to K14
  row_agrees : (row : Row) (o : Option Frame) → Agrees (if_found caller base cert row o)
  row_agrees row None = by_test false (cause.NoFrame row.id) (λ h. cc, λ h. absurd h)
  row_agrees row (Some f) = in_turn (frame_agrees caller cert row f) (λ _. in_turn (painting_agrees row f) (λ _. ways_agree base cert.rows row f))

  good_row : (row : Row) (o : Option Frame) → frame_at base row.id ≡ o → (if_found caller base cert row o).Holds ↔ IsGoodRow caller base cert row.id row.rank row.cursor
  good_row row None is = (λ h. absurd h, λ g. let e = g.found in cc)
  good_row row (Some f) is = (
    λ h. record {
      frame = f;
      found = is;
      admitted = h.0.0;
      price = h.0.1.0;
      most = h.0.1.1;
      clean = h.1.0.0;
      ends = h.1.0.1;
      ways = (ways_lead base cert.rows row f).0 h.1.1.0;
      zero = h.1.1.1.0;
      down = h.1.1.1.1;
    },
    λ g.
        let found = g.found in
        let same : g.frame ≡ f = cc in
        subst (λ (x : Frame). (on_frame_of_row caller base cert row x).Holds) same ((g.admitted, (g.price, g.most)), ((g.clean, g.ends), ((ways_lead base cert.rows row g.frame).1 g.ways, (g.zero, g.down)))),
  )

module _ (base : BaseView) (policy : Policy) (cert : CertView) where
  agrees : Agrees (conditions base policy cert)
  agrees = in_turn (head_agrees base policy cert) (λ _. for_each (on_row cert.groups base cert) (λ row. row_agrees cert.groups base cert row (frame_at base row.id)) cert.rows)

  rows_good : (on_rows cert.groups base cert cert.rows).Holds ↔ AllByRecursion (λ r. IsGoodRow cert.groups base cert r.id r.rank r.cursor) cert.rows
  rows_good = each_all (on_row cert.groups base cert) _ (λ row. good_row cert.groups base cert row (frame_at base row.id) refl) cert.rows

  verdict_none : (o : Option Cause) → verdict_of o ≡ Cleared → o ≡ None
  verdict_none None h = refl
  verdict_none (Some c) h = cc

  verdict_some : (o : Option Cause) (c : Cause) → verdict_of o ≡ Refused c → o ≡ Some c
  verdict_some None c h = cc
  verdict_some (Some k) c h = cc

  pub cleared_good : verdict base policy cert ≡ Cleared → Good base policy cert
  cleared_good h =
      let all = agrees.none.0 (verdict_none _ h) in
      let terms = all.0.0 in
      record { entry = terms.0; ceiling = terms.1.0; keyings = terms.1.1.0; groups = terms.1.1.1; covered = all.0.1; rows = rows_good.0 all.1 }

  pub good_cleared : Good base policy cert → verdict base policy cert ≡ Cleared
  good_cleared g = ap verdict_of (agrees.none.1 (((g.entry, (g.ceiling, (g.keyings, g.groups))), g.covered), rows_good.1 g.rows))

  -- an answer that is the verdict is Cleared if and only if the certificate is good
  pub clears_good : (v : Verdict) → v ≡ verdict base policy cert → (v ≡ Cleared) ↔ Good base policy cert
  clears_good v e = (λ h. cleared_good (sym e ∙ h), λ g. e ∙ good_cleared g)

  pub refusal : (c : Cause) → (verdict base policy cert ≡ Refused c) ↔ (conditions base policy cert).FailsFor c
  refusal c = (λ h. (agrees.some c).0 (verdict_some _ c h), λ f. ap verdict_of ((agrees.some c).1 f))
