use Rattle.std.proofs.Common.{sym, ◌∙◌, ap}
use Rattle.finder.specs.Loops.{is_near}
use Rattle.finder.proofs.Near.{far, nearer}
use Rattle.finder.proofs.window.near.Goals.{then-is_near+in_ok-insert, else-is_near}
use Rattle.finder.proofs.window.near.Goals as goal

pub loop-node-preserved : goal.loop-node-preserved
loop-node-preserved c =
    let l = c.loop-node in
    let is = ap (λ rank. is_near rank c.args.most) (sym c.rank_at.ensures) ∙ sym c.is_near.ensures in
    elim c.if-is_near.branch [
      | then-is_near+in_ok-insert w ↦ rw (w.ids-is, w.in_ok-insert.ensures.keys) (nearer _ _ _ _ _ l.invariant w.id.result w.id.ensures (is ∙ w.if-is_near.true))
      | else-is_near w ↦ rw w.ids-is (far _ _ _ _ _ l.invariant (is ∙ w.if-is_near.false))
    ]
