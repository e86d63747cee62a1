use Rattle.std.proofs.Common.{◌∙◌, ap, rules}
use Rattle.lint.specs.Lookups.{KnowsValues}
use Rattle.lint.specs.Lint.{ranks_of, unreached, frame_ids}
use Rattle.lint.proofs.audit_findings.Audit.of.Goals as goal

pub returns : goal.returns
returns c =
    let found = c.in_ok-survey.survey.found in
    let known : KnowsValues (ranks_of found) c.in_ok-ranks.ranks = search rules in
    record {
      found = found;
      faults = search rules;
      reached = search rules;
      least = search rules;
      known = known;
      finds_none = search rules;
      unreached = c.in_ok-unreached.ensures (ranks_of found) known ∙ ap (λ fs. frame_ids (unreached c.args.policy.now.groups (ranks_of found) fs)) c.frames.ensures.all;
      looks = search rules;
    }
