use Rattle.std.proofs.Common.{◌≡◌, ◌∙◌, ◌++◌, ◌+◌, [], sym, ap, Bool, true, false, cond, Some, map, append-nil, arith}
use Rattle.std.specs.Prelude.{filter, codes}
use Rattle.std.specs.Option.{option_eq}
use Rattle.page_ids.specs.Ids.{id_eq}
use Rattle.page_ids.specs.Keys.{key_word}
use Rattle.page_ids.specs.Ways.{way_at, way_key}
use Rattle.base_map.specs.Edges.{seeks, spaced_keys}
use Rattle.base_map.proofs.WaySteps.{ways_from, seeking_more, key_more}
use Rattle.base_map.proofs.edges.push_keys_to.Goals.{then-eq+in_ok-push_key, then-not-is_first+in_ok-push, else-not-is_first, else-eq}
use Rattle.base_map.proofs.edges.push_keys_to.Goals as goal

pub loop-place-preserved : goal.loop-place-preserved
loop-place-preserved c =
    let f = c.args.frame.now in
    let to = c.args.to in
    let n = c.loop-place.place in
    let out = c.loop-place.out.items in
    let first = c.loop-place.is_first in
    let rest = map way_key (filter (seeks f to) (ways_from (n + 1))) in
    let is : seeks f to (way_at n) ≡ c.eq.result =
    ap (seeks f to) (sym c.at.ensures) ∙ (ap (λ o. option_eq id_eq o (Some to)) (sym c.sought.ensures) ∙ sym c.eq.ensures) in
    let more : (b : Bool) → c.eq.result ≡ b → out ++ spaced_keys first (map way_key (cond b _ _)) ≡ _ =
    λ b e. ap (λ ws. out ++ spaced_keys first (map way_key ws)) (sym (seeking_more f to n b (omega (arith, c.loop-place-test.true)) (is ∙ e))) ∙ c.loop-place.invariant in
    elim c.if-eq.branch [
      | then-eq+in_ok-push_key w ↦
          let mid : w.if-not-is_first.out.items ≡ out ++ cond first [] (codes " ") = elim w.if-not-is_first.branch [
            | then-not-is_first+in_ok-push v ↦ rw (v.out-is, v.in_ok-push.ensures.items) (ap (λ b. out ++ cond b [] (codes " ")) (sym v.if-not-is_first.true))
            | else-not-is_first v ↦ rw v.out-is (sym (append-nil out) ∙ ap (λ b. out ++ cond b [] (codes " ")) (sym v.if-not-is_first.false))
          ] in
          rw (w.out-is, w.is_first-is)
          (key_more first out w.if-not-is_first.out.items w.push_key.new.text.items (way_key (way_at n)) rest mid (w.in_ok-push_key.ensures ∙ ap (λ k. w.if-not-is_first.out.items ++ key_word k) (w.key.ensures ∙ ap way_key w.at-then-eq.ensures))
          ∙ more true w.if-eq.true)
      | else-eq w ↦ rw (w.out-is, w.is_first-is) (more false w.if-eq.false)
    ]
