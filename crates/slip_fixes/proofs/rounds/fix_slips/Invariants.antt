use Rattle.slip_fixes.proofs.rounds.fix_slips.Given as goal
use Rattle.lint.specs.Lint.{IsLint}
use Rattle.slip_fixes.specs.Rounds.{AreRounds}

abbrev pub invariant-loop-made : goal.invariant-loop-made
invariant-loop-made l = record {
  rounds : AreRounds l.policy l.text l._made l.state.text.items l.state.fixes;
  found : IsLint l.state.text.items l.policy l.state.findings.items;
}
