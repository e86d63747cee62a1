-- The fold is right about the frame.
use Rattle.std.proofs.Common.{◌≡◌, ℕ, ◌+◌, ◌-◌, ◌<◌, ◌≤◌, arith, refl, ap, sym, ◌∙◌, subst, List, [], ◌∷◌, ◌++◌, length, drop, get_or, Option, Some, None, add-one, drop-cons, length-drop}
use Rattle.std.proofs.lemmas.List.{take_all}
use Rattle.frame_records.specs.declared.frame.Lead.{Lead}
use Rattle.terminal_codes.specs.Bodies.{lead_codes, sent, TouchesAt}
use Rattle.abstract_paint.specs.declared.cursor.AbsCursor.{AbsCursor}
use Rattle.abstract_paint.specs.Paint.{cursor_step, lead_end, or_touches, paint_from, paint_of, IsPainted}
use Rattle.abstract_paint.proofs.Valid.{IsCursor, StepsTo, EndsBy, SomeTouches, IsJudged}
use Rattle.abstract_paint.proofs.StepLaw.{step_law}
use Rattle.abstract_paint.proofs.Fold.{lead_cursor, nothing_sent, ends_more, clean_more, first_touch, whole_ends}

-- what is known once the bytes before i are folded
pub record Folded (lead : Lead) (body : List ℕ) (i : ℕ) (x : AbsCursor) : Type 0 where
  pub ends : EndsBy (sent lead body i) x
  pub valid : IsCursor x
  pub clean : (j : ℕ) → j < i → TouchesAt lead body j → ⊥

pub drop_some : (i : ℕ) (xs ys : List ℕ) (b : ℕ) → drop i xs ≡ b ∷ ys → (i < length xs) × (get_or xs i 0 ≡ b) × (drop (i + 1) xs ≡ ys)
drop_some i xs ys b e =
    let n : length xs - i ≡ length ys + 1 = sym (length-drop i xs) ∙ (ap length e ∙ sym (add-one (length ys))) in
    let lt : i < length xs = omega arith in
    let both : get_or xs i 0 ∷ drop (i + 1) xs ≡ b ∷ ys = sym (rw (add-one, drop-cons xs i 0) refl) ∙ e in
    (lt, cc, cc)

judged_law : (lead : Lead) (body bs : List ℕ) (i b : ℕ) (x : AbsCursor) → drop i body ≡ b ∷ bs → Folded lead body i x → ((y : AbsCursor) → drop (i + 1) body ≡ bs → Folded lead body (i + 1) y → IsPainted lead body (paint_from y (i + 1) bs)) → (r : Option AbsCursor) → IsJudged b x r → IsPainted lead body (or_touches i (λ y. paint_from y (i + 1) bs) r)
judged_law lead body bs i b x e f next None s =
    let d = drop_some i body bs b e in
    let there : SomeTouches (get_or body i 0) x = subst (λ (k : ℕ). SomeTouches k x) (sym d.1) s in
    first_touch lead body i x d.0 f.ends there f.clean
judged_law lead body bs i b x e f next (Some y) s =
    let d = drop_some i body bs b e in
    let there : StepsTo (get_or body i 0) x y = subst (λ (k : ℕ). StepsTo k x y) (sym d.1) s in
    next y d.2 (record {
      ends = ends_more lead body i x y d.0 f.ends there;
      valid = s.valid;
      clean = clean_more lead body i x y f.ends there f.clean;
    })

folded_law : (lead : Lead) (body bs : List ℕ) (i : ℕ) (x : AbsCursor) → drop i body ≡ bs → Folded lead body i x → IsPainted lead body (paint_from x i bs)
folded_law lead body [] i x e f =
    let met : length body ≤ i = (let n : length body - i ≡ 0 = sym (length-drop i body) ∙ ap length e in omega arith) in (
      (λ j h. f.clean j (omega (arith, h.2.0)) h),
      whole_ends lead body x (subst (λ (xs : List ℕ). EndsBy (lead_codes lead ++ xs) x) (take_all i body met) f.ends),
    )
folded_law lead body (b ∷ bs) i x e f =
    judged_law lead body bs i b x e f (λ y d g. folded_law lead body bs (i + 1) y d g) (cursor_step x b) (step_law x b f.valid)

pub painted_law : (lead : Lead) (body : List ℕ) → IsPainted lead body (paint_of lead body)
painted_law lead body = folded_law lead body body 0 (lead_end lead) refl (record { ends = nothing_sent lead body; valid = lead_cursor lead; clean = λ j lt h. absurd (omega arith) })
