use Rattle.std.proofs.Common.{◌≡◌, ◌∙◌, ◌++◌, ◌∷◌, [], ◌+◌, ℕ, List, Option, true, false, cond, sym, ap, drop, append_assoc, arith}
use Rattle.std.proofs.lemmas.List.{drop_more}
use Rattle.page_ids.specs.Ids.{Id}
use Rattle.frame_records.specs.declared.frame.Frame.{Frame}
use Rattle.lint.specs.Lint.{is_unreached, unreached, frame_ids}
use Rattle.lint.proofs.audit_findings.unreached.Goals as goal
use Rattle.lint.proofs.audit_findings.unreached.Goals.{then-is_unreached+in_ok-push, else-is_unreached}

module _ (groups : List ℕ) (known : List (Id × Option ℕ)) (f : Frame) (fs : List Frame) (before all : List Id) (so_far : before ++ frame_ids (unreached groups known (f ∷ fs)) ≡ all) where
  abbrev rest : List Frame
  rest = unreached groups known fs

  -- the frame's id is listed if no key reaches it
  listed : is_unreached groups known f ≡ true → (before ++ f.id ∷ []) ++ frame_ids rest ≡ all
  listed e = append_assoc before (f.id ∷ []) (frame_ids rest) ∙ ap (λ b. before ++ frame_ids (cond b (f ∷ rest) rest)) (sym e) ∙ so_far

  left_out : is_unreached groups known f ≡ false → before ++ frame_ids rest ≡ all
  left_out e = ap (λ b. before ++ frame_ids (cond b (f ∷ rest) rest)) (sym e) ∙ so_far

pub loop-frame-preserved : goal.loop-frame-preserved
loop-frame-preserved c = λ known k.
    let groups = c.args.groups.now in
    let frames = c.args.frames.now in
    let i = c.loop-frame.frame-index in
    let f = c.frame-item.result in
    let fs = drop (i + 1) frames in
    let before = c.loop-frame.ids.items in
    let all = frame_ids (unreached groups known frames) in
    let left : drop i frames ≡ f ∷ fs = drop_more frames i f (omega arith) ∙ ap (λ x. x ∷ fs) (sym c.frame-item.is) in
    let so_far : before ++ frame_ids (unreached groups known (f ∷ fs)) ≡ all =
    ap (λ xs. before ++ frame_ids (unreached groups known xs)) (sym left) ∙ c.loop-frame.invariant known k in
    let is = c.is_unreached.ensures known k in
    elim c.if-is_unreached.branch [
      | then-is_unreached+in_ok-push w ↦
          ap (λ xs. xs ++ frame_ids (unreached groups known fs)) (ap (λ v. v.items) w.ids-is ∙ w.in_ok-push.ensures.items)
          ∙ listed groups known f fs before all so_far (sym is ∙ w.if-is_unreached.true)
      | else-is_unreached w ↦
          ap (λ xs. xs ++ frame_ids (unreached groups known fs)) (ap (λ v. v.items) w.ids-is)
          ∙ left_out groups known f fs before all so_far (sym is ∙ w.if-is_unreached.false)
    ]
