use Rattle.std.proofs.Common.{length, ◌∙◌}
use Rattle.checker.proofs.Counted.{counted}
use Rattle.checker.proofs.judge.check_counted.Goals as goal

pub returns-clause-count : goal.returns-clause-count
returns-clause-count g c =
    let cert = c.args.cert.now in
    let is = c.first_cause-cause in
    counted g.C.Cover.compared c.args.base.now cert (g.C.Cover.most_among (length cert.rows)) is.ensures.base (λ id. g.met.C.Cover.few cert.rows id is.ensures.rows.few) c.args.policy.now (g.met.C.Cover.some cert.rows) c.verdict_by.result is.result.1 (c.verdict_by.ensures ∙ is.ensures.cause) is.ensures.probes is.ensures.steps
