use Rattle.std.proofs.Common.{◌≡◌, subst, refl, arith, ap, Some, slice_get, length}
use Rattle.finder.proofs.Words.{slice_get_read, IsTarget}
use Rattle.finder.proofs.Targeted.{targets_more}
use Rattle.finder.proofs.table.Targets.add_frame.Goals as goal

pub loop-way-preserved : goal.loop-way-preserved
loop-way-preserved c =
    let f = c.index-frames-node.result in
    let placed = subst (λ fs. slice_get fs c.args.node ≡ Some f) c.frames.ensures.all (slice_get_read c.frames.result.now _ c.args.node f refl (omega (arith, c.requires.inside, ap length c.frames.ensures.all)) c.index-frames-node.is) in
    targets_more _ _ c.args.node c.loop-way.way f c.target_of.result c.loop-way.self c.add.new.self c.loop-way-test.true c.requires.few placed (subst (λ w. IsTarget c.args.notes.now.groups.now c.args.notes.now.base.now f w c.target_of.result) c.at.ensures c.target_of.ensures) c.in_ok-add.ensures c.loop-way.invariant
