use Rattle.std.proofs.Common.{◌≤◌, length, arith}
use Rattle.page_ids.proofs.Truths.{weaken}
use Rattle.lint.proofs.judging.refused.Goals as goal

pub returns-in-Some : goal.returns-in-Some
returns-in-Some c =
    let range = c.in-Some.ensures.range in
    let ascends : c.in-Some.range.start ≤ c.in-Some.range.end = omega (arith, range.0, range.1, c.requires.0) in
    let within : c.in-Some.range.end ≤ length c.args.text.now = omega (arith, range.1, c.requires.1) in
    weaken c.not_toml.result
    (λ fs is. (c.cause_span-cause.result, c.message-message.result.now, record { ascends = c.cause_span-cause.ensures.ascends ascends; within = c.cause_span-cause.ensures.within within }, is))
    c.not_toml.ensures
