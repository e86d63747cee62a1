use Rattle.std.proofs.Common.{◌∙◌}
use Rattle.checker.proofs.WaysInTurn.{by_ways}
use Rattle.checker.proofs.judge.judge_ways.Goals as goal

pub returns-clause-cause : goal.returns-clause-cause
returns-clause-cause g c =
    c.ways_cause-cause.ensures ∙ by_ways c.args.base.now c.args.cert.now.rows c.args.row.now c.args.frame.now c.over_ways-ways.result.lost c.over_ways-ways.result.down c.over_ways-ways.ensures.lost c.over_ways-ways.ensures.down
