use Rattle.std.proofs.Common.{arith}
use Rattle.std.proofs.lemmas.Grind.{common_steps}
use Rattle.screen_files.proofs.Parts.{last_after}
use Rattle.screen_files.proofs.head.last_part.Goals as goal

pub loop-more-preserved : goal.loop-more-preserved
loop-more-preserved c =
    grind (arith, common_steps, last_after c.args.separator c.in-Some.field-0-0.now c.in-Some.more.now, c.loop-more.invariant)
