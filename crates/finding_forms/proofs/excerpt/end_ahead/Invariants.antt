use Rattle.std.proofs.Common.{◌≡◌, ◌≤◌, ◌-◌, length}
use Rattle.finding_forms.specs.Excerpts.{end_ahead}
use Rattle.finding_forms.proofs.excerpt.end_ahead.Given as goal

abbrev pub invariant-ahead : goal.invariant-ahead
invariant-ahead l = record {
  value : end_ahead l.text l.left l.at ≡ end_ahead l.text l.most l.offset;
  from : l.offset ≤ l.at;
  within : l.at ≤ length l.text;
}

abbrev pub decreases-ahead : goal.decreases-ahead
decreases-ahead l = length l.text - l.at
