use Rattle.std.proofs.Common.{List, ℕ, sym, subst, ◌∙◌}
use Rattle.session_machine.specs.Sessions.{opening}
use Rattle.session_machine.specs.Runs.{state_after}
use Rattle.checker.specs.Safe.{Safe, HasRows}
use Rattle.checker.proofs.Steps.{safe, keeps_rows}
use Rattle.checker.proofs.Clears.{cleared_good, clears_good}
use Rattle.checker.proofs.judge.check.Goals as goal

pub returns-clause-good : goal.returns-clause-good
returns-clause-good g c = clears_good c.args.base.now c.args.policy.now c.args.cert.now c.check_counted.result.0 c.check_counted.ensures.verdict

pub returns-clause-safe : goal.returns-clause-safe
returns-clause-safe g c cleared =
    let base = c.args.base.now in
    let cert = c.args.cert.now in
    let good = cleared_good base c.args.policy.now cert (sym c.check_counted.ensures.verdict ∙ cleared) in
    subst (λ (groups : List ℕ). Safe groups base cert.ceiling cert.keyings) (sym good.groups) (safe base c.args.policy.now cert c.check_counted.ensures.base.apart good)

pub returns-clause-covered : goal.returns-clause-covered
returns-clause-covered g c cleared keys =
    let base = c.args.base.now in
    let cert = c.args.cert.now in
    let good = cleared_good base c.args.policy.now cert (sym c.check_counted.ensures.verdict ∙ cleared) in
    subst (λ (groups : List ℕ). HasRows cert.rows (state_after groups base (opening base) keys)) (sym good.groups)
    (keeps_rows base c.args.policy.now cert c.check_counted.ensures.base.apart good keys)
