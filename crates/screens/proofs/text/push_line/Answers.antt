use Rattle.std.proofs.Common.{arith, ap, ◌∙◌}
use Rattle.screens.proofs.Lines.{turn_space, turn_char, line_ends}
use Rattle.screens.proofs.text.push_line.Goals as goal
use Rattle.screens.proofs.text.push_line.Goals.{then-c-eq32, else-c-eq32+in_ok-push_after}

pub loop-look-preserved : goal.loop-look-preserved
loop-look-preserved c =
    elim c.if-c-eq32.branch [
      | then-c-eq32 w ↦ record {
        rest = turn_space _ c.args.row.now c.loop-look.look-index _ _ _ _ _ _ _ (omega arith) c.seen_char-c.ensures w.if-c-eq32.true w.spaces-is (ap (λ v. v.items) w.out-is) c.loop-look.invariant.rest;
        few = omega arith;
      }
      | else-c-eq32+in_ok-push_after w ↦ record {
        rest = turn_char _ c.args.row.now c.loop-look.look-index _ _ _ _ _ _ _ (omega arith) c.seen_char-c.ensures w.if-c-eq32.false w.spaces-is (ap (λ v. v.items) w.out-is ∙ w.in_ok-push_after.ensures {u = tt}) c.loop-look.invariant.rest;
        few = omega arith;
      }
    ]

pub returns : goal.returns
returns c = line_ends _ c.args.row.now c.loop-look.look-index c.loop-look.spaces _ _ _ _ c.push_char.ensures (omega arith) c.loop-look.invariant.rest
