use Rattle.std.proofs.Common.{◌≡◌, ◌∙◌, ◌==◌, true, false, get_or, arith, rules}
use Rattle.screen_files.proofs.Holding.{hold_space, hold_same, hold_none, hold_end}
use Rattle.screen_files.proofs.settling.cells_hold.Goals as goal
use Rattle.screen_files.proofs.settling.cells_hold.Goals.{else-others-at-ne32-via-then-others-at-ne32+else-others-at, else-others-at-ne32-via-else-others-at-ne32}

pub returns-then-others-at : goal.returns-then-others-at
returns-then-others-at c =
    let no_space : (get_or c.args.others.now c.loop-at.at 0 == 32) ≡ false = search rules in
    let other : (get_or c.args.others.now c.loop-at.at 0 == get_or c.args.cells.now c.loop-at.at 0) ≡ false = search rules in
    hold_none c.args.cells.now c.args.others.now c.loop-at.at c.requires c.loop-at-test.true no_space other ∙ c.loop-at.invariant

pub loop-at-preserved : goal.loop-at-preserved
loop-at-preserved c =
    elim c.else-others-at-ne32.branch [
      | else-others-at-ne32-via-then-others-at-ne32+else-others-at w ↦
          let same : (get_or c.args.others.now c.loop-at.at 0 == get_or c.args.cells.now c.loop-at.at 0) ≡ true = search rules in
          hold_same c.args.cells.now c.args.others.now c.loop-at.at c.requires c.loop-at-test.true same ∙ c.loop-at.invariant
      | else-others-at-ne32-via-else-others-at-ne32 w ↦
          let space : (get_or c.args.others.now c.loop-at.at 0 == 32) ≡ true = search rules in
          hold_space c.args.cells.now c.args.others.now c.loop-at.at c.requires c.loop-at-test.true space ∙ c.loop-at.invariant
    ]

pub returns : goal.returns
returns c =
    hold_end c.args.cells.now c.args.others.now c.loop-at.at c.requires (omega arith) ∙ c.loop-at.invariant
