use Rattle.std.proofs.Common.{arith, ◌∙◌}
use Rattle.std.proofs.lemmas.List.{length-set}
use Rattle.screens.proofs.Rows.{looks_more, looks_done}
use Rattle.screens.proofs.screen.screen_looks.Goals as goal

pub loop-row-preserved : goal.loop-row-preserved
loop-row-preserved c = record {
  done = looks_more _ _ _ _ c.loop-row.invariant.done (omega arith) c.put_looks.ensures;
  size = length-set _ _ _ ∙ c.loop-row.invariant.size;
  covered = c.covers-covered.ensures;
}

pub returns : goal.returns
returns c = looks_done _ c.loop-row.rows c.loop-row.row c.loop-row.invariant.done c.loop-row.invariant.size (omega arith)
