use Rattle.std.proofs.Common.{◌≡◌, ◌∙◌, sym, ap, drop, ◌+◌, ◌∷◌, Bool, true, false, cond, arith}
use Rattle.std.specs.Prelude.{filter}
use Rattle.std.proofs.lemmas.List.{drop_more}
use Rattle.indexmap.specs.IndexSet.{insert_all}
use Rattle.page_ids.specs.Ids.{id_eq}
use Rattle.base_map.specs.Edges.{is_lacked}
use Rattle.base_map.proofs.drawing.MapDrawing.add_lost.Goals as goal
use Rattle.base_map.proofs.drawing.MapDrawing.add_lost.Goals.{then-lacks+in_ok-insert, else-lacks}

pub loop-to-preserved : goal.loop-to-preserved
loop-to-preserved c =
    let test = is_lacked c.args.self.now.base in
    let targets = c.args.targets.now in
    let i = c.loop-to.to-index in
    let to = c.to-item.result in
    let old = c.loop-to.lost.keys in
    let rest = drop (i + 1) targets in
    let more : drop i targets ≡ to ∷ rest = drop_more targets i to (omega arith) ∙ ap (λ x. x ∷ rest) (sym c.to-item.is) in
    let here = ap (λ xs. insert_all id_eq old (filter test xs)) (sym more) ∙ c.loop-to.invariant in
    let by : (b : Bool) → c.lacks.result ≡ b → insert_all id_eq old (cond b (to ∷ filter test rest) (filter test rest)) ≡ _ =
    λ b e. ap (λ b. insert_all id_eq old (cond b (to ∷ filter test rest) (filter test rest))) (sym e ∙ c.lacks.ensures) ∙ here in
    elim c.if-lacks.branch [
      | then-lacks+in_ok-insert w ↦ rw (w.lost-is, w.in_ok-insert.ensures.keys) (by true w.if-lacks.true)
      | else-lacks w ↦ rw w.lost-is (by false w.if-lacks.false)
    ]
