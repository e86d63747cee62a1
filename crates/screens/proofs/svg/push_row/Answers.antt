use Rattle.std.proofs.Common.{arith, ap, ◌∙◌}
use Rattle.screens.proofs.Runs.{both_inks, begin_ink, next_on, next_off, last_run}
use Rattle.screens.proofs.svg.push_row.Goals as goal
use Rattle.screens.proofs.svg.push_row.Goals.{then-not-same_ink+in_ok-push_run, else-not-same_ink}

pub loop-column-preserved : goal.loop-column-preserved
loop-column-preserved c =
    let decided = both_inks _ _ _ _ _ c.same_ink.ensures (c.loop-column.invariant.inked _) c.ink-next.ensures in
    elim c.if-not-same_ink.branch [
      | then-not-same_ink+in_ok-push_run w ↦ record {
        rest = next_off c.args.layer c.args.looks.now c.args.row c.loop-column.from _ c.loop-column.column _ _ _ _ w.from-is c.loop-column.invariant.behind (omega arith) (decided ∙ w.if-not-same_ink.true) (ap (λ v. v.items) w.out-is ∙ w.in_ok-push_run.ensures {u = tt}) c.loop-column.invariant.rest;
        behind = omega arith;
        inked = λ d. begin_ink c.args.layer c.args.looks.now c.loop-column.column _ _ d _ _ w.from-is (omega arith) w.ink-is c.ink-next.ensures;
      }
      | else-not-same_ink w ↦ record {
        rest = next_on c.args.layer c.args.looks.now c.args.row c.loop-column.from _ c.loop-column.column _ _ _ _ w.from-is c.loop-column.invariant.behind (omega arith) (decided ∙ w.if-not-same_ink.false) (ap (λ v. v.items) w.out-is) c.loop-column.invariant.rest;
        behind = omega arith;
        inked = λ d. begin_ink c.args.layer c.args.looks.now c.loop-column.from _ d d _ _ w.from-is (omega arith) w.ink-is (c.loop-column.invariant.inked d);
      }
    ]

pub returns : goal.returns
returns c = last_run _ c.args.looks.now c.args.row c.loop-column.from c.loop-column.column _ _ _ _ _ c.push_run-2.ensures (omega arith) (omega arith) c.loop-column.invariant.rest
