use Rattle.std.proofs.Common.{◌+◌, ◌*◌}
use Rattle.fault_scripts.specs.Loops.{IsReporting}
use Rattle.fault_scripts.proofs.reporter.Reporter.judge.Given as goal

abbrev pub invariant-loop-place : goal.invariant-loop-place
invariant-loop-place l = IsReporting l.survey.base l.policy l.survey.found (l.index * 14 + (l.place + 2)) l.self
