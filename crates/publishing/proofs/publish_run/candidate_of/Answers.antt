use Rattle.std.proofs.Common.{ℕ, List, subst}
use Rattle.edition_checks.specs.Candidates.{IsCandidate}
use Rattle.publishing.proofs.PublishLaws.{to_publish}
use Rattle.publishing.proofs.publish_run.candidate_of.Goals as goal

pub returns-in-Ok : goal.returns-in-Ok
returns-in-Ok c =
    let candidate = c.in-Ok.candidate in
    to_publish c.args.texts.now.base.items c.args.texts.now.policy.items c.args.policy candidate c.requires
    (subst (λ (text : List ℕ). IsCandidate text c.args.policy candidate) c.as_slice.ensures.value c.in-Ok.ensures)
