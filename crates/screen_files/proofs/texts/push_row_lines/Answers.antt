use Rattle.std.proofs.Common.{append_assoc, arith}
use Rattle.std.proofs.lemmas.Grind.{common_steps}
use Rattle.screen_files.proofs.Lines.{lines_more}
use Rattle.screen_files.proofs.texts.push_row_lines.Goals as goal

pub loop-above-preserved : goal.loop-above-preserved
loop-above-preserved c =
    grind (arith, common_steps, append_assoc, lines_more c.args.codes.now c.loop-above.above, c.loop-above.invariant)
