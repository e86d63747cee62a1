use Rattle.std.proofs.Common.{◌≤◌}
use Rattle.lint_words.proofs.near_bytes.run_start.Given as goal

abbrev pub invariant-loop-start : goal.invariant-loop-start
invariant-loop-start l = l.start ≤ l.end

abbrev pub decreases-loop-start : goal.decreases-loop-start
decreases-loop-start l = l.start
