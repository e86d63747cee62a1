use Rattle.std.proofs.Common.{sym, ◌∙◌}
use Rattle.checker.proofs.Editions.{safe_change}
use Rattle.checker.proofs.LeastLost.{lost_is_least}
use Rattle.checker.proofs.change.check_change.Goals as goal

pub returns-clause-safe : goal.returns-clause-safe
returns-clause-safe g c cleared =
    let bases = c.judge_change.ensures.bases cleared in
    safe_change c.args.policy.now c.args.old.now c.args.old_cert.now c.args.new.now c.args.new_cert.now bases.0.apart bases.1.apart (sym c.judge_change.ensures.verdict ∙ cleared)

pub returns-clause-lost : goal.returns-clause-lost
returns-clause-lost g c id named =
    lost_is_least c.args.policy.now c.args.old.now c.args.old_cert.now c.args.new.now c.args.new_cert.now id (c.judge_change.ensures.rows id named) (sym c.judge_change.ensures.verdict ∙ named)
