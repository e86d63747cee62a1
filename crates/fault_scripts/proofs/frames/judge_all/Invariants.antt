use Rattle.fault_scripts.specs.Loops.{IsAuditedSoFar}
use Rattle.fault_scripts.proofs.frames.judge_all.Given as goal

abbrev pub invariant-loop-index : goal.invariant-loop-index
invariant-loop-index l = IsAuditedSoFar l.survey.base l.policy l.survey.found l.index l.judge
