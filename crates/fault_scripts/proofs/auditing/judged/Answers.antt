use Rattle.std.proofs.Common.{arith}
use Rattle.fault_scripts.proofs.Limits.{frames_few}
use Rattle.fault_scripts.proofs.auditing.judged.Goals as goal

pub judge_all-requires-clause-few : goal.judge_all-requires-clause-few
judge_all-requires-clause-few c = omega (arith, c.requires.finding.few, frames_few c.args.survey.now.base c.requires.valid)

pub returns : goal.returns
returns c = record { valid = c.requires.valid; found = c.args.survey.now.found; judged = c.in_ok-judge.ensures }
