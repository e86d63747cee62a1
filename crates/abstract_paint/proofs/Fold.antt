-- The abstract cursor along a body.
use Rattle.std.proofs.Common.{◌≡◌, ℕ, ◌+◌, ◌<◌, arith, refl, ap, sym, ◌∙◌, subst, List, [], ◌∷◌, ◌++◌, length, take, get_or, Bool, true, false, inl, inr, append_assoc, append-nil}
use Rattle.std.proofs.lemmas.Bool.{cases_lt}
use Rattle.std.proofs.lemmas.List.{take_more}
use Rattle.terminal_codes.specs.declared.caret.Caret.{Caret}
use Rattle.frame_records.specs.declared.frame.Lead.{Lead}
use Rattle.frame_records.specs.declared.frame.Lead.TheVariants.{Clear, Keep}
use Rattle.terminal_codes.specs.Writes.{caret_step, caret_run, touches}
use Rattle.terminal_codes.specs.Bodies.{lead_codes, sent, TouchesAt, IsFirstTouch}
use Rattle.terminal_codes.proofs.Runs.{caret_run_push}
use Rattle.terminal_codes.proofs.Starts.{touch_to_start, touch_from_start, ends_to_start, ends_from_start}
use Rattle.abstract_paint.specs.declared.cursor.AbsCursor.{AbsCursor}
use Rattle.abstract_paint.specs.Paint.{Ends, lead_end}
use Rattle.abstract_paint.proofs.Valid.{StandsFor, IsCursor, StepsTo, SomeTouches, EndsBy}
use Rattle.abstract_paint.proofs.StepLaw.{caret}

pub lead_ends : (lead : Lead) → EndsBy (lead_codes lead) (lead_end lead)
lead_ends Clear = record {
  into = λ c lt. record { within = omega arith; place = refl; pend = refl };
  back = λ u h. (caret 0 false, omega arith, same_end u.at u.pending h.place h.pend);
} where
  same_end : (p : ℕ) (q : Bool) → p ≡ 40 → q ≡ false → caret 40 false ≡ caret p q
  same_end p q e f = cc
lead_ends Keep = record { into = λ c lt. record { within = lt; place = tt; pend = tt }; back = λ u h. (u, h.within, refl) }

pub lead_cursor : (lead : Lead) → IsCursor (lead_end lead)
lead_cursor Clear = record { screen = omega arith; flag = tt }
lead_cursor Keep = record { screen = tt; flag = refl }

pub more_ends : (xs : List ℕ) (b : ℕ) (x y : AbsCursor) → EndsBy xs x → StepsTo b x y → EndsBy (xs ++ b ∷ []) y
more_ends xs b x y e s = record {
  into = λ t lt. subst (λ (u : Caret). StandsFor y u) (sym (caret_run_push t xs b)) (s.into (caret_run t xs) (e.into t lt));
  back = λ u h.
      let w = s.back u h in
      let t = e.back w.0 w.1 in
      (t.0, t.1, caret_run_push t.0 xs b ∙ (ap (λ (v : Caret). caret_step v b) t.2 ∙ w.2));
}

-- one byte of the body more
pub sent_more : (lead : Lead) (body : List ℕ) (i : ℕ) → i < length body → sent lead body i ++ get_or body i 0 ∷ [] ≡ sent lead body (i + 1)
sent_more lead body i lt = append_assoc (lead_codes lead) (take i body) (get_or body i 0 ∷ []) ∙ ap (λ (xs : List ℕ). lead_codes lead ++ xs) (sym (take_more body i 0 lt))

pub ends_more : (lead : Lead) (body : List ℕ) (i : ℕ) (x y : AbsCursor) → i < length body → EndsBy (sent lead body i) x → StepsTo (get_or body i 0) x y → EndsBy (sent lead body (i + 1)) y
ends_more lead body i x y lt e s = subst (λ (xs : List ℕ). EndsBy xs y) (sent_more lead body i lt) (more_ends (sent lead body i) (get_or body i 0) x y e s)

-- no byte before i touches, nor does the one at i
pub clean_more : (lead : Lead) (body : List ℕ) (i : ℕ) (x y : AbsCursor) → EndsBy (sent lead body i) x → StepsTo (get_or body i 0) x y → ((j : ℕ) → j < i → TouchesAt lead body j → ⊥) → (j : ℕ) → j < i + 1 → TouchesAt lead body j → ⊥
clean_more lead body i x y e s before j lt h =
    elim (cases_lt j i) [
      | inl l ↦ before j l h
      | inr ge ↦
          let same : j ≡ i = omega arith in
          let w = touch_to_start lead body j h in
          let quiet = s.clean (caret_run w.0 (sent lead body i)) (e.into w.0 w.1) in
          let loud : touches (caret_run w.0 (sent lead body i)) (get_or body i 0) ≡ true = subst (λ (k : ℕ). touches (caret_run w.0 (sent lead body k)) (get_or body k 0) ≡ true) same w.2.1 in
          clash quiet loud
    ] where
      clash : {v : _} → v ≡ false → v ≡ true → ⊥
      clash p q = cc

pub first_touch : (lead : Lead) (body : List ℕ) (i : ℕ) (x : AbsCursor) → i < length body → EndsBy (sent lead body i) x → SomeTouches (get_or body i 0) x → ((j : ℕ) → j < i → TouchesAt lead body j → ⊥) → IsFirstTouch lead body i
first_touch lead body i x lt e s before =
    let t = e.back s.0 s.1 in
    record {
      touch = touch_from_start lead body i (t.0, t.1, (lt, subst (λ (v : Caret). touches v (get_or body i 0) ≡ true) (sym t.2) s.2));
      first = before;
    }

-- the ends of the whole
pub whole_ends : (lead : Lead) (body : List ℕ) (x : AbsCursor) → EndsBy (lead_codes lead ++ body) x → Ends lead body x
whole_ends lead body x e p q lt = (
  (λ h. ends_from_start lead body p q (e.back (caret p q) h)),
  (λ h.
      let w = ends_to_start lead body p q h in
      subst (λ (c : Caret). StandsFor x c) w.2 (e.into w.0 w.1)),
)

-- after the lead alone
pub nothing_sent : (lead : Lead) (body : List ℕ) → EndsBy (sent lead body 0) (lead_end lead)
nothing_sent lead body = subst (λ (xs : List ℕ). EndsBy xs (lead_end lead)) (sym (append-nil (lead_codes lead))) (lead_ends lead)
