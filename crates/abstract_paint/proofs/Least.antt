-- The least start is one.
use Rattle.std.proofs.Common.{◌≡◌, ℕ, ◌+◌, ◌*◌, arith, inl, inr, refl, ap, sym, ◌∙◌, subst, List, Bool, true, false, Some, None}
use Rattle.std.proofs.lemmas.Bool.{cases_lt}
use Rattle.std.specs.Int.{from_bool}
use Rattle.frame_records.specs.declared.frame.Lead.{Lead}
use Rattle.terminal_codes.specs.Bodies.{StartTouches}
use Rattle.abstract_paint.specs.declared.start.Start.{Start}
use Rattle.abstract_paint.specs.Start.{caret_at, IsLeastStart, StartsAreOne}
use Rattle.abstract_paint.proofs.Exact.{first_is_one}

abbrev start : ℕ → Bool → ℕ → Start
start p q i = record { at = p; pending = q; offset = i }

same_start : (a b : Start) → a.at ≡ b.at → a.pending ≡ b.pending → a.offset ≡ b.offset → a ≡ b
same_start a b e f g =
    ap (λ (p : ℕ). start p a.pending a.offset) e ∙ (ap (λ (q : Bool). start b.at q a.offset) f ∙ ap (λ (i : ℕ). start b.at b.pending i) g)

-- a number is that of one start
number_is_one : (p r : ℕ) (q s : Bool) → 2 * p + from_bool q ≡ 2 * r + from_bool s → (p ≡ r) × (q ≡ s)
number_is_one p r true true e = (omega arith, refl)
number_is_one p r true false e = absurd (omega arith)
number_is_one p r false true e = absurd (omega arith)
number_is_one p r false false e = (omega arith, refl)

least_is_one : (lead : Lead) (body : List ℕ) (a b : Start) → IsLeastStart lead body a → IsLeastStart lead body b → a ≡ b
least_is_one lead body a b f g =
    let same : a.offset ≡ b.offset = first_is_one lead body a.offset b.offset f.offset g.offset in
    let n = 2 * a.at + from_bool a.pending in
    let m = 2 * b.at + from_bool b.pending in
    elim (cases_lt n m) [
      | inl l ↦ absurd (g.start.least (caret_at a.at a.pending) l (subst (λ (i : ℕ). StartTouches lead body i (caret_at a.at a.pending)) same f.start.touch))
      | inr ge ↦
          elim (cases_lt m n) [
            | inl l ↦ absurd (f.start.least (caret_at b.at b.pending) l (subst (λ (i : ℕ). StartTouches lead body i (caret_at b.at b.pending)) (sym same) g.start.touch))
            | inr le ↦
                let is = number_is_one a.at b.at a.pending b.pending (omega arith) in
                same_start a b is.0 is.1 same
          ]
    ]

pub starts_are_one : StartsAreOne
starts_are_one lead body None None f g = refl
starts_are_one lead body None (Some b) f g = absurd (f b.offset g.offset.touch)
starts_are_one lead body (Some a) None f g = absurd (g a.offset f.offset.touch)
starts_are_one lead body (Some a) (Some b) f g = ap Some (least_is_one lead body a b f g)
