use Rattle.std.proofs.Common.{◌≡◌, ◌∙◌, sym, ap, subst, ◌+◌, ◌∷◌, [], true, false, drop, get_or, arith}
use Rattle.std.proofs.lemmas.List.{drop_more, drop_all}
use Rattle.base_map.specs.Nodes.{ends_run, is_title, title_run}
use Rattle.base_map.proofs.Runs.{IsRunOf, after_escape, at_escape, at_plain, at_title, at_end_of_run, at_last}
use Rattle.base_map.proofs.title.title_run.Goals as goal
use Rattle.base_map.proofs.title.title_run.Goals.{then-is_escaped, else-is_escaped+then-byte-eq-ESCAPE, else-is_escaped+else-byte-eq-ESCAPE+then-not-ends_run+in_ok-push, else-is_escaped+else-byte-eq-ESCAPE+else-not-ends_run+else-is_title, then-not-is_title, else-not-is_title}

pub loop-byte-preserved : goal.loop-byte-preserved
loop-byte-preserved c =
    let body = c.args.body.now in
    let i = c.loop-byte.byte-index in
    let byte = get_or body i 0 in
    let left = drop (i + 1) body in
    let is = title_run body in
    let run = c.loop-byte.run.items in
    let here : IsRunOf run c.loop-byte.is_escaped (byte ∷ left) is =
    subst (λ xs. IsRunOf run c.loop-byte.is_escaped xs is) (drop_more body i 0 c.loop-byte-test.true) c.loop-byte.invariant in
    elim c.if-is_escaped.branch [
      | then-is_escaped w ↦
          rw (w.run-is, w.is_escaped-is) (after_escape run byte left is (subst (λ b. IsRunOf run b (byte ∷ left) is) w.if-is_escaped.true here))
      | else-is_escaped+then-byte-eq-ESCAPE w ↦
          rw (w.run-is, w.is_escaped-is)
          (at_escape run byte left is w.if-byte-eq-ESCAPE.true (subst (λ b. IsRunOf run b (byte ∷ left) is) w.if-is_escaped.false here))
      | else-is_escaped+else-byte-eq-ESCAPE+then-not-ends_run+in_ok-push w ↦
          let plain : ends_run byte ≡ false = grind (arith, w.ends_run.ensures, w.if-not-ends_run.true) in
          rw (w.run-is, w.is_escaped-is, w.in_ok-push.ensures.items, w.if-is_escaped.false)
          (at_plain run byte left is w.if-byte-eq-ESCAPE.false plain (subst (λ b. IsRunOf run b (byte ∷ left) is) w.if-is_escaped.false here))
      | else-is_escaped+else-byte-eq-ESCAPE+else-not-ends_run+else-is_title w ↦
          let ends : ends_run byte ≡ true = grind (arith, w.ends_run.ensures, w.if-not-ends_run.false) in
          let none : is_title run ≡ false = ap is_title (sym w.as_slice.ensures.value) ∙ (sym w.is_title.ensures ∙ w.if-is_title.false) in
          rw (w.run-is, w.is_escaped-is, w.clear.ensures.items, w.if-is_escaped.false)
          (at_end_of_run run byte left is w.if-byte-eq-ESCAPE.false ends none (subst (λ b. IsRunOf run b (byte ∷ left) is) w.if-is_escaped.false here))
    ]

pub returns-then-is_title : goal.returns-then-is_title
returns-then-is_title c =
    let body = c.args.body.now in
    let i = c.loop-byte.byte-index in
    let byte = get_or body i 0 in
    let left = drop (i + 1) body in
    let is = title_run body in
    let run = c.loop-byte.run.items in
    let here : IsRunOf run c.loop-byte.is_escaped (byte ∷ left) is =
    subst (λ xs. IsRunOf run c.loop-byte.is_escaped xs is) (drop_more body i 0 c.loop-byte-test.true) c.loop-byte.invariant in
    let ends : ends_run byte ≡ true = grind (arith, c.ends_run.ensures, c.if-not-ends_run.false) in
    let some : is_title run ≡ true = ap is_title (sym c.as_slice.ensures.value) ∙ (sym c.is_title.ensures ∙ c.if-is_title.true) in
    at_title run byte left is c.if-byte-eq-ESCAPE.false ends some (subst (λ b. IsRunOf run b (byte ∷ left) is) c.if-is_escaped.false here)

pub returns : goal.returns
returns c =
    let body = c.args.body.now in
    let is = title_run body in
    let run = c.loop-byte.run.items in
    let nothing : drop c.loop-byte.byte-index body ≡ [] = drop_all c.loop-byte.byte-index body c.loop-byte-test.false in
    let last = at_last run c.loop-byte.is_escaped is (subst (λ xs. IsRunOf run c.loop-byte.is_escaped xs is) nothing c.loop-byte.invariant) in
    elim c.if-not-is_title.branch [
      | then-not-is_title w ↦
          let none : is_title run ≡ false = ap is_title (sym c.as_slice-2.ensures.value) ∙ grind (arith, c.is_title-2.ensures, w.if-not-is_title.true) in
          rw (w.run-is, w.clear-then-not-is_title.ensures.items) (rw none at last)
      | else-not-is_title w ↦
          let some : is_title run ≡ true = ap is_title (sym c.as_slice-2.ensures.value) ∙ grind (arith, c.is_title-2.ensures, w.if-not-is_title.false) in
          rw w.run-is (rw some at last)
    ]
