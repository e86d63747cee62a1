use Rattle.lint.proofs.LookRows.{rows_begin, rows_more}
use Rattle.lint.proofs.looks.add_rows.Goals as goal

pub loop-above-init : goal.loop-above-init
loop-above-init c = rows_begin _ _ _

pub loop-above-preserved : goal.loop-above-preserved
loop-above-preserved c = rows_more _ _ _ _ _ _ c.loop-above.invariant c.in_ok-add_row.ensures
