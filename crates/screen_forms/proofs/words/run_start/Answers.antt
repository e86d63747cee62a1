use Rattle.std.proofs.Common.{arith}
use Rattle.std.proofs.lemmas.Grind.{common_steps}
use Rattle.screen_forms.proofs.Walks.{start_none}
use Rattle.screen_forms.proofs.words.run_start.Goals as goal

pub returns-after-loop-start-clause-value : goal.returns-after-loop-start-clause-value
returns-after-loop-start-clause-value c =
    grind (arith, common_steps, c.loop-start.invariant.same, start_none c.args.gap c.args.text.now)
