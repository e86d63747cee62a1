use Rattle.std.proofs.Common.{arith}
use Rattle.std.proofs.lemmas.Grind.{common_steps}
use Rattle.screen_files.proofs.Parts.{price_step}
use Rattle.screen_files.proofs.head.price_of.Goals as goal

pub loop-column-preserved : goal.loop-column-preserved
loop-column-preserved c =
    grind (arith, common_steps, price_step c.loop-column.column c.args.text.now (omega arith), c.loop-column.invariant)
