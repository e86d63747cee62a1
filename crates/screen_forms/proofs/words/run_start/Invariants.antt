use Rattle.std.proofs.Common.{◌≡◌, ◌≤◌, length}
use Rattle.screen_forms.specs.Words.{run_start}
use Rattle.screen_forms.proofs.words.run_start.Given as goal

-- it begins no later than here
abbrev pub invariant-loop-start : goal.invariant-loop-start
invariant-loop-start l = record {
  same : run_start l.gap l.text l.start ≡ run_start l.gap l.text l.fn.end;
  within : l.start ≤ l.fn.end;
  inside : l.fn.end ≤ length l.text;
}

abbrev pub decreases-loop-start : goal.decreases-loop-start
decreases-loop-start l = l.start
