-- The result of painting, read in both directions.
use Rattle.std.proofs.Common.{◌≡◌, ℕ, arith, inl, inr, refl, ap, sym, subst, List}
use Rattle.std.proofs.lemmas.Bool.{cases_lt}
use Rattle.frame_records.specs.declared.frame.Lead.{Lead}
use Rattle.terminal_codes.specs.Bodies.{IsClean, IsFirstTouch}
use Rattle.abstract_paint.specs.declared.cursor.AbsCursor.{AbsCursor}
use Rattle.abstract_paint.specs.declared.painting.Painted.{Painted}
use Rattle.abstract_paint.specs.declared.painting.Painted.TheVariants.{Clean, Touches}
use Rattle.abstract_paint.specs.Paint.{Ends, paint_of, IsPainted, IsExact}
use Rattle.abstract_paint.proofs.Unique.{ends_are_one}
use Rattle.abstract_paint.proofs.Judged.{painted_law}

-- the first that touches is one
pub first_is_one : (lead : Lead) (body : List ℕ) (i j : ℕ) → IsFirstTouch lead body i → IsFirstTouch lead body j → i ≡ j
first_is_one lead body i j f g =
    elim (cases_lt i j) [
      | inl l ↦ absurd (g.first i l f.touch)
      | inr ge ↦
          elim (cases_lt j i) [
            | inl l ↦ absurd (f.first j l g.touch)
            | inr le ↦ omega arith
          ]
    ]

clean_only : (lead : Lead) (body : List ℕ) (x : AbsCursor) (r : Painted) → IsPainted lead body r → IsClean lead body → Ends lead body x → r ≡ Clean x
clean_only lead body x (Clean y) p clean ends = ap Clean (ends_are_one lead body y x p.1 ends)
clean_only lead body x (Touches i) p clean ends = absurd (clean i p.touch)

touches_only : (lead : Lead) (body : List ℕ) (i : ℕ) (r : Painted) → IsPainted lead body r → IsFirstTouch lead body i → r ≡ Touches i
touches_only lead body i (Clean y) p first = absurd (p.0 i first.touch)
touches_only lead body i (Touches j) p first = ap Touches (first_is_one lead body j i p first)

cursor_of_clean : (lead : Lead) (body : List ℕ) (r : Painted) → IsPainted lead body r → IsClean lead body → (x : AbsCursor) × (r ≡ Clean x)
cursor_of_clean lead body (Clean y) p clean = (y, refl)
cursor_of_clean lead body (Touches i) p clean = absurd (clean i p.touch)

pub is_exact : (lead : Lead) (body : List ℕ) → IsExact lead body
is_exact lead body =
    let is = painted_law lead body in
    record {
      clean = λ x. (
        (λ e. subst (λ (r : Painted). IsPainted lead body r) e is),
        (λ h. clean_only lead body x (paint_of lead body) is h.0 h.1),
      );
      touches = λ i. (
        (λ e. subst (λ (r : Painted). IsPainted lead body r) e is),
        (λ h. touches_only lead body i (paint_of lead body) is h),
      );
      some_cursor = λ clean. cursor_of_clean lead body (paint_of lead body) is clean;
    }

-- what equals painting means it
pub means : (lead : Lead) (body : List ℕ) (r : Painted) → r ≡ paint_of lead body → IsPainted lead body r
means lead body r e = subst (λ (p : Painted). IsPainted lead body p) (sym e) (painted_law lead body)
