use Rattle.std.proofs.Common.{◌≡◌, ◌≤◌}
use Rattle.finding_forms.specs.Excerpts.{begin_before}
use Rattle.finding_forms.proofs.excerpt.begin_before.Given as goal

abbrev pub invariant-back : goal.invariant-back
invariant-back l = record {
  value : begin_before l.text l.left l.at ≡ begin_before l.text l.most l.offset;
  within : l.at ≤ l.offset;
}

abbrev pub decreases-back : goal.decreases-back
decreases-back l = l.at
