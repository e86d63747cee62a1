-- One abstract step is exact.
use Rattle.std.proofs.Common.{◌≡◌, ℕ, ◌+◌, ◌%◌, ◌<◌, inl, inr, arith, refl, ap, sym, ◌∙◌, subst, Bool, true, false, Option, Some, None, ◌==◌, nat_lt, if◌then◌else◌}
use Rattle.std.proofs.lemmas.Bool.{cases_eq, ne_eqb}
use Rattle.std.proofs.lemmas.Bool.Decides.{nat_tests}
use Rattle.terminal_codes.specs.declared.caret.Caret.{Caret}
use Rattle.terminal_codes.specs.Screen.{moved, code_of}
use Rattle.terminal_codes.specs.Writes.{one, past, byte_writes, control_at, caret_step, has_service, is_service, touches}
use Rattle.terminal_codes.proofs.Runs.{touches_12}
use Rattle.abstract_paint.specs.declared.cursor.Place.{Place}
use Rattle.abstract_paint.specs.declared.cursor.Place.TheVariants.{Any, Col, Spot}
use Rattle.abstract_paint.specs.declared.cursor.Pend.{Pend}
use Rattle.abstract_paint.specs.declared.cursor.Pend.TheVariants.{No, Yes, Maybe}
use Rattle.abstract_paint.specs.declared.cursor.AbsCursor.{AbsCursor}
use Rattle.abstract_paint.specs.Paint.{PlaceStands, PendStands, OnScreen, place_moved, calm, control_cursor, code_by, written_at, written_of, cursor_step}
use Rattle.abstract_paint.proofs.Valid.{StandsFor, FlagFits, IsCursor, MovesTo, StepsTo, SomeTouches, IsJudged}
use Rattle.abstract_paint.proofs.Moves.{stands_somewhere, stays, moved_small, place_moves}

pub pend_somewhere : (pend : Pend) → (q : Bool) × PendStands pend q
pend_somewhere No = (false, refl)
pend_somewhere Yes = (true, refl)
pend_somewhere Maybe = (false, tt)

abbrev pub caret : ℕ → Bool → Caret
caret p q = record { at = p; pending = q }

pub same_caret : (p r : ℕ) (q s : Bool) → p ≡ r → q ≡ s → caret p q ≡ caret r s
same_caret p r q s e f = cc

-- a byte that moves by f and writes nothing of the service rows
calm_step : (b : ℕ) (f : ℕ → ℕ) (x : AbsCursor) (to : Place) → ((s : Caret) → StandsFor x s → caret_step s b ≡ caret (f s.at) false) → ((s : Caret) → StandsFor x s → touches s b ≡ false) → ((p : ℕ) → p < 960 → f p < 960) → MovesTo f x.place to → StepsTo b x (calm to)
calm_step b f x to steps clean small m =
    let q = pend_somewhere x.pend in
    record {
      into = λ s h. subst (λ (u : Caret). StandsFor (calm to) u) (sym (steps s h)) (record { within = small s.at h.within; place = m.into s.at h.within h.place; pend = refl });
      back = λ u h.
          let w = m.back u.at h.within h.place in
          let there : StandsFor x (caret w.0 q.0) = record { within = w.1; place = w.2; pend = q.1 } in
          (caret w.0 q.0, there, steps (caret w.0 q.0) there ∙ same_caret (f w.0) u.at false u.pending w.3 (sym h.pend));
      clean = clean;
      valid = record { screen = m.screen; flag = tt };
    }

-- a control code but 0C writes nothing
quiet_control : (s : Caret) (b : ℕ) → nat_lt b 32 ≡ true → (b == 12) ≡ false → touches s b ≡ false
quiet_control s b lt n12 = rw (n12, lt) refl

control_steps : (s : Caret) (b : ℕ) → nat_lt b 32 ≡ true → (b == 12) ≡ false → (b == 27) ≡ false → caret_step s b ≡ caret (moved s.at b) false
control_steps s b lt n12 n27 = rw (lt, n12, n27) refl

escape_step : (x : AbsCursor) → IsCursor x → StepsTo 27 x (record { place = x.place; pend = Yes })
escape_step x v =
    let q = pend_somewhere x.pend in
    record {
      into = λ s h. record { within = h.within; place = h.place; pend = refl };
      back = λ u h.
          let there : StandsFor x (caret u.at q.0) = record { within = h.within; place = h.place; pend = q.1 } in
          (caret u.at q.0, there, same_caret u.at u.at true u.pending refl (sym h.pend));
      clean = λ s h. quiet_control s 27 refl refl;
      valid = record { screen = v.screen; flag = tt };
    }

clear_touches : (x : AbsCursor) → IsCursor x → SomeTouches 12 x
clear_touches x v =
    let w = stands_somewhere x.place v.screen in
    let q = pend_somewhere x.pend in
    (caret w.0 q.0, record { within = w.1; place = w.2; pend = q.1 }, sym (touches_12 (caret w.0 q.0) 12 refl))

control_moves : (x : AbsCursor) (b : ℕ) → IsCursor x → nat_lt b 32 ≡ true → (b == 12) ≡ false → (b == 27) ≡ false → StepsTo b x (calm (place_moved x.place b))
control_moves x b v lt n12 n27 =
    calm_step b (λ p. moved p b) x (place_moved x.place b) (λ s h. control_steps s b lt n12 n27) (λ s h. quiet_control s b lt n12) (λ p small. moved_small p small b) (place_moves x.place v.screen b)

control_other : (x : AbsCursor) (b : ℕ) → (b == 27) ≡ false → (b == 12) ≡ false → control_cursor x b ≡ Some (calm (place_moved x.place b))
control_other x b n27 n12 = rw (n27, n12) refl

control_law : (x : AbsCursor) (b : ℕ) → IsCursor x → nat_lt b 32 ≡ true → IsJudged b x (control_cursor x b)
control_law x b v lt =
    elim (cases_eq b 27) [
      | inl e ↦ subst (λ (k : ℕ). IsJudged k x (control_cursor x k)) (sym e) (escape_step x v)
      | inr n27 ↦
          elim (cases_eq b 12) [
            | inl e ↦ subst (λ (k : ℕ). IsJudged k x (control_cursor x k)) (sym e) (clear_touches x v)
            | inr n12 ↦
                let d27 = ne_eqb b 27 n27 in
                let d12 = ne_eqb b 12 n12 in
                subst (λ (r : Option AbsCursor). IsJudged b x r) (sym (control_other x b d27 d12)) (control_moves x b v lt d12 d27)
          ]
    ]

-- a byte from 20 on
record IsHigh (b : ℕ) : Type 0 where
  low : nat_lt b 32 ≡ false
  not_12 : (b == 12) ≡ false
  not_27 : (b == 27) ≡ false

is_high : (b : ℕ) → nat_lt b 32 ≡ false → IsHigh b
is_high b e = record { low = e; not_12 = grind (arith, nat_tests); not_27 = grind (arith, nat_tests) }

high_steps : (s : Caret) (b : ℕ) (code : Option ℕ) → IsHigh b → code_of s.pending b ≡ code → caret_step s b ≡ caret (past s.at code) false
high_steps s b code o e =
    let low = o.low in
    let n27 = o.not_27 in
    ap (λ (r : Bool). caret (if r then control_at s.at b else past s.at (code_of s.pending b)) (b == 27)) low ∙ (ap (λ (c : Option ℕ). caret (past s.at c) (b == 27)) e ∙ ap (λ (q : Bool). caret (past s.at code) q) n27)

high_writes : (s : Caret) (b : ℕ) (code : Option ℕ) → IsHigh b → code_of s.pending b ≡ code → touches s b ≡ has_service (one s.at code)
high_writes s b code o e =
    let n12 = o.not_12 in
    ap (λ (c : Option ℕ). has_service (if b == 12 then byte_writes s 12 else one s.at c)) e ∙ rw n12 refl

-- if no escape is pending and nothing is written, nothing is written after an escape
silent : (b : ℕ) → code_of false b ≡ None → code_of true b ≡ None
silent b e = grind (arith, nat_tests)

-- what the cursor may not write, no caret of it writes
none_writes : (pend : Pend) (b : ℕ) (q : Bool) → PendStands pend q → code_by pend b ≡ None → code_of q b ≡ None
none_writes No b q h e = rw h e
none_writes Yes b q h e = rw h e
none_writes Maybe b true h e = silent b e
none_writes Maybe b false h e = e

-- what it may write, some flag of it writes
some_writes : (pend : Pend) (b : ℕ) → (q : Bool) × PendStands pend q × (code_of q b ≡ code_by pend b)
some_writes No b = (false, refl, refl)
some_writes Yes b = (true, refl, refl)
some_writes Maybe b = (false, tt, refl)

-- at a spot the flag is known
all_write : (pend : Pend) (b p : ℕ) (q : Bool) → FlagFits (Spot p) pend → PendStands pend q → code_of q b ≡ code_by pend b
all_write No b p q f h = rw h refl
all_write Yes b p q f h = rw h refl
all_write Maybe b p q f h = cc

serves_one : (p code : ℕ) (r : Bool) → is_service p code ≡ r → has_service (one p (Some code)) ≡ r
serves_one p code true e = rw e refl
serves_one p code false e = rw e refl

-- a caret that writes a service position
touching : (x : AbsCursor) (b p code : ℕ) → IsHigh b → code_by x.pend b ≡ Some code → p < 960 → PlaceStands x.place p → is_service p code ≡ true → SomeTouches b x
touching x b p code o e lt place serving =
    let q = some_writes x.pend b in
    (caret p q.0, record { within = lt; place = place; pend = q.1 }, high_writes (caret p q.0) b (Some code) o (q.2 ∙ e) ∙ serves_one p code true serving)

serves_column : (c code : ℕ) → c < 40 → is_service c code ≡ true
serves_column c code h = grind (arith, nat_tests)

inner : (p code : ℕ) → is_service p code ≡ false → p < 920
inner p code h = grind (arith, nat_tests)

written_spot : (x : AbsCursor) (b p code : ℕ) → IsHigh b → code_by x.pend b ≡ Some code → x.place ≡ Spot p → p < 960 → FlagFits (Spot p) x.pend → (r : Bool) → is_service p code ≡ r → IsJudged b x (if r then None else Some (calm (Spot (p + 1))))
written_spot x b p code o e is screen flag true serving = touching x b p code o e screen (rw is refl) serving
written_spot x b p code o e is screen flag false serving =
    let lt = inner p code serving in
    let at : (s : Caret) → StandsFor x s → s.at ≡ p = λ s h. rw is at h.place in
    let writes : (s : Caret) → StandsFor x s → code_of s.pending b ≡ Some code = λ s h. all_write x.pend b p s.pending flag h.pend ∙ e in
    calm_step b (λ q. (q + 1) % 960) x (Spot (p + 1))
    (λ s h. high_steps s b (Some code) o (writes s h))
    (λ s h. high_writes s b (Some code) o (writes s h) ∙ (ap (λ (k : ℕ). has_service (one k (Some code))) (at s h) ∙ serves_one p code false serving))
    (λ q small. omega arith)
    (rw is (record { into = λ q l h. omega arith; back = λ q l h. (p, omega arith, refl, omega arith); screen = omega arith }))

written_law : (x : AbsCursor) (b code : ℕ) (place : Place) → IsHigh b → x.place ≡ place → OnScreen place → FlagFits place x.pend → code_by x.pend b ≡ Some code → IsJudged b x (written_at place code)
written_law x b code Any o is screen flag e = touching x b 0 code o e (omega arith) (rw is tt) refl
written_law x b code (Col c) o is screen flag e = touching x b c code o e (omega arith) (rw is (omega arith)) (serves_column c code screen)
written_law x b code (Spot p) o is screen flag e = written_spot x b p code o e is screen flag (is_service p code) refl

high_law : (x : AbsCursor) (b : ℕ) → IsCursor x → IsHigh b → (code : Option ℕ) → code_by x.pend b ≡ code → IsJudged b x (written_of x.place code)
high_law x b v o (Some code) e = written_law x b code x.place o refl v.screen v.flag e
high_law x b v o None e =
    calm_step b (λ p. p) x x.place
    (λ s h. high_steps s b None o (none_writes x.pend b s.pending h.pend e))
    (λ s h. high_writes s b None o (none_writes x.pend b s.pending h.pend e))
    (λ p lt. lt)
    (stays x.place (λ p. p) x.place v.screen (λ p. refl) refl)

step_by : (x : AbsCursor) (b : ℕ) → IsCursor x → (r : Bool) → nat_lt b 32 ≡ r → IsJudged b x (if r then control_cursor x b else written_of x.place (code_by x.pend b))
step_by x b v true e = control_law x b v e
step_by x b v false e = high_law x b v (is_high b e) (code_by x.pend b) refl

pub step_law : (x : AbsCursor) (b : ℕ) → IsCursor x → IsJudged b x (cursor_step x b)
step_law x b v = step_by x b v (nat_lt b 32) refl
