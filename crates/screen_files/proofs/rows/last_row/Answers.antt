use Rattle.std.proofs.Common.{◌∙◌, arith, sym}
use Rattle.std.proofs.lemmas.Bool.Decides.{nat_tests}
use Rattle.std.proofs.lemmas.Grind.{common_steps}
use Rattle.screen_files.proofs.Trims.{last_none, last_step, last_stop}
use Rattle.screen_files.proofs.rows.last_row.Goals as goal

pub loop-row-preserved : goal.loop-row-preserved
loop-row-preserved c = record {
  last = last_step c.args.codes.now c.loop-row.row (omega arith) (grind (arith, nat_tests, common_steps)) ∙ c.loop-row.invariant.last;
  within = omega arith;
}

pub returns-else-is_empty-clause-value : goal.returns-else-is_empty-clause-value
returns-else-is_empty-clause-value c =
    sym (last_stop c.args.codes.now c.loop-row.row (omega arith) (grind (arith, nat_tests, common_steps))) ∙ c.loop-row.invariant.last

pub returns-after-loop-row-clause-value : goal.returns-after-loop-row-clause-value
returns-after-loop-row-clause-value c =
    grind (arith, common_steps, c.loop-row.invariant.last, last_none c.args.codes.now)
