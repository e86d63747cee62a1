-- At most one cursor stands for given ends.
use Rattle.std.proofs.Common.{◌≡◌, ℕ, ◌+◌, ◌%◌, ◌<◌, ◌↔◌, ◌&&◌, nat_lt, arith, refl, ap, sym, ◌∙◌, List, ◌++◌, Bool, true, false, IsTrue}
use Rattle.std.proofs.lemmas.Bool.Decides.{nat_tests}
use Rattle.std.proofs.lemmas.Bool.{and_parts}
use Rattle.frame_records.specs.declared.frame.Lead.{Lead}
use Rattle.terminal_codes.specs.Bodies.{lead_codes, EndsAt}
use Rattle.terminal_codes.specs.Writes.{caret_run}
use Rattle.terminal_codes.proofs.Starts.{ends_from_start, caret_run_small}
use Rattle.abstract_paint.specs.declared.cursor.Place.{Place}
use Rattle.abstract_paint.specs.declared.cursor.Place.TheVariants.{Any, Col, Spot}
use Rattle.abstract_paint.specs.declared.cursor.Pend.{Pend}
use Rattle.abstract_paint.specs.declared.cursor.Pend.TheVariants.{No, Yes, Maybe}
use Rattle.abstract_paint.specs.declared.cursor.AbsCursor.{AbsCursor}
use Rattle.abstract_paint.specs.Paint.{PlaceStands, PendStands, Stands, OnScreen, Ends, place_test, pend_test, stands}
use Rattle.abstract_paint.proofs.Moves.{stands_somewhere}
use Rattle.abstract_paint.proofs.StepLaw.{caret, pend_somewhere}

-- the two stand for the same positions and flags
abbrev Alike : AbsCursor → AbsCursor → Type 0
Alike x y = (p : ℕ) (q : Bool) → p < 960 → Stands x p q → Stands y p q

place_within : (x y : AbsCursor) (q : Bool) → PendStands x.pend q → Alike x y → (p : ℕ) → p < 960 → PlaceStands x.place p → PlaceStands y.place p
place_within x y q s a p lt h = (a p q lt (record { within = lt; place = h; pend = s })).place

pend_within : (x y : AbsCursor) (p : ℕ) → p < 960 → PlaceStands x.place p → Alike x y → (q : Bool) → PendStands x.pend q → PendStands y.pend q
pend_within x y p lt h a q s = (a p q lt (record { within = lt; place = h; pend = s })).pend

abbrev Within : Place → Place → Type 0
Within x y = (p : ℕ) → p < 960 → PlaceStands x p → PlaceStands y p

-- places of the same positions, of which there is one, are the same
same_place : (x y : Place) (p : ℕ) → p < 960 → PlaceStands x p → Within x y → Within y x → x ≡ y
same_place Any Any p lt h to from = refl
same_place Any (Col d) p lt h to from = absurd (let a : 0 % 40 ≡ d = to 0 (omega arith) tt in let b : 1 % 40 ≡ d = to 1 (omega arith) tt in omega arith)
same_place Any (Spot s) p lt h to from = absurd (let a : 0 ≡ s = to 0 (omega arith) tt in let b : 1 ≡ s = to 1 (omega arith) tt in omega arith)
same_place (Col c) Any p lt h to from = absurd (let a : 0 % 40 ≡ c = from 0 (omega arith) tt in let b : 1 % 40 ≡ c = from 1 (omega arith) tt in omega arith)
same_place (Col c) (Col d) p lt h to from = let there : p % 40 ≡ d = to p lt h in ap Col (sym h ∙ there)
same_place (Col c) (Spot s) p lt h to from = absurd (let a : c ≡ s = to c (omega arith) (omega arith) in let b : c + 40 ≡ s = to (c + 40) (omega arith) (omega arith) in omega arith)
same_place (Spot r) Any p lt h to from = absurd (let a : 0 ≡ r = from 0 (omega arith) tt in let b : 1 ≡ r = from 1 (omega arith) tt in omega arith)
same_place (Spot r) (Col d) p lt h to from = absurd (let e : p % 40 ≡ d = to p lt h in let a : d ≡ r = from d (omega arith) (omega arith) in let b : d + 40 ≡ r = from (d + 40) (omega arith) (omega arith) in omega arith)
same_place (Spot r) (Spot s) p lt h to from = let there : p ≡ s = to p lt h in ap Spot (sym h ∙ there)

abbrev FlagsWithin : Pend → Pend → Type 0
FlagsWithin x y = (q : Bool) → PendStands x q → PendStands y q

same_pend : (x y : Pend) → FlagsWithin x y → FlagsWithin y x → x ≡ y
same_pend No No to from = refl
same_pend No Yes to from = let h = to false refl in cc
same_pend No Maybe to from = let h = from true tt in cc
same_pend Yes No to from = let h = to true refl in cc
same_pend Yes Yes to from = refl
same_pend Yes Maybe to from = let h = from false tt in cc
same_pend Maybe No to from = let h = to true tt in cc
same_pend Maybe Yes to from = let h = to false tt in cc
same_pend Maybe Maybe to from = refl

abbrev cursor : Place → Pend → AbsCursor
cursor place pend = record { place = place; pend = pend }

same_cursor : (x y : AbsCursor) → x.place ≡ y.place → x.pend ≡ y.pend → x ≡ y
same_cursor x y e f = ap (λ (p : Place). cursor p x.pend) e ∙ ap (λ (f : Pend). cursor y.place f) f

-- cursors that stand for the same, of which there is one
pub same_of_alike : (x y : AbsCursor) (p : ℕ) (q : Bool) → Stands x p q → Alike x y → Alike y x → x ≡ y
same_of_alike x y p q h to from =
    let g = to p q h.within h in
    same_cursor x y
    (same_place x.place y.place p h.within h.place (place_within x y q h.pend to) (place_within y x q g.pend from))
    (same_pend x.pend y.pend (pend_within x y p h.within h.place to) (pend_within y x p g.within g.place from))

-- some start ends somewhere
some_end : (lead : Lead) (body : List ℕ) → (p : ℕ) × (q : Bool) × (p < 960) × EndsAt lead body p q
some_end lead body =
    let u = caret_run (caret 0 false) (lead_codes lead ++ body) in
    (u.at, u.pending, caret_run_small (caret 0 false) (lead_codes lead ++ body) (omega arith), ends_from_start lead body u.at u.pending (caret 0 false, omega arith, refl))

pub ends_are_one : (lead : Lead) (body : List ℕ) (x y : AbsCursor) → Ends lead body x → Ends lead body y → x ≡ y
ends_are_one lead body x y e f =
    let w = some_end lead body in
    same_of_alike x y w.0 w.1 ((e w.0 w.1 w.2).1 w.3)
    (λ p q lt h. (f p q lt).1 ((e p q lt).0 h))
    (λ p q lt h. (e p q lt).1 ((f p q lt).0 h))

-- the test is the meaning
place_is_test : (x : Place) (p : ℕ) → (place_test x p ≡ true) ↔ PlaceStands x p
place_is_test Any p = ((λ h. tt), (λ h. refl))
place_is_test (Col c) p = ((λ h. grind (arith, nat_tests)), (λ h. grind (arith, nat_tests)))
place_is_test (Spot s) p = ((λ h. grind (arith, nat_tests)), (λ h. grind (arith, nat_tests)))

pend_is_test : (x : Pend) (q : Bool) → (pend_test x q ≡ true) ↔ PendStands x q
pend_is_test No true = ((λ h. cc), (λ h. cc))
pend_is_test No false = ((λ h. refl), (λ h. refl))
pend_is_test Yes q = ((λ h. h), (λ h. h))
pend_is_test Maybe q = ((λ h. tt), (λ h. refl))

lt_test : (p : ℕ) → nat_lt p 960 ≡ true → p < 960
lt_test p h = grind (arith, nat_tests)

test_lt : (p : ℕ) → p < 960 → nat_lt p 960 ≡ true
test_lt p h = grind (arith, nat_tests)

pub stands_is_test : (x : AbsCursor) (p : ℕ) (q : Bool) → (stands x p q ≡ true) ↔ Stands x p q
stands_is_test x p q = (
  (λ h.
      let a = and_parts (nat_lt p 960) (place_test x.place p && pend_test x.pend q) h in
      let b = and_parts (place_test x.place p) (pend_test x.pend q) a.1 in
      record { within = lt_test p a.0; place = (place_is_test x.place p).0 b.0; pend = (pend_is_test x.pend q).0 b.1 }),
  (λ h.
      let a = test_lt p h.within in
      let b = (place_is_test x.place p).1 h.place in
      let c = (pend_is_test x.pend q).1 h.pend in
      rw (a, b, c) refl),
)

-- a place that stands for a position is on the screen
place_on_screen : (x : Place) (p : ℕ) → p < 960 → PlaceStands x p → OnScreen x
place_on_screen Any p lt h = tt
place_on_screen (Col c) p lt h = omega arith
place_on_screen (Spot s) p lt h = omega arith

pub screen_is_stood_for : (x : AbsCursor) → OnScreen x.place ↔ ((p : ℕ) × (q : Bool) × Stands x p q)
screen_is_stood_for x = (
  (λ h.
      let p = stands_somewhere x.place h in
      let q = pend_somewhere x.pend in
      (p.0, q.0, record { within = p.1; place = p.2; pend = q.1 })),
  (λ h. place_on_screen x.place h.0 h.2.within h.2.place),
)

pub ends_are_on_screen : (lead : Lead) (body : List ℕ) (x : AbsCursor) → Ends lead body x → OnScreen x.place
ends_are_on_screen lead body x e =
    let w = some_end lead body in
    let h = (e w.0 w.1 w.2).1 w.3 in
    place_on_screen x.place w.0 w.2 h.place

-- an answer that is the test's has its meaning
pub is_test : (x : AbsCursor) (p : ℕ) (q r : Bool) → r ≡ stands x p q → IsTrue r ↔ Stands x p q
is_test x p q r e = rw e (stands_is_test x p q)
