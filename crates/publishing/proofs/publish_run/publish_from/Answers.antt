use Rattle.publishing.proofs.PublishLaws.{published_from}
use Rattle.publishing.proofs.ServingLaws.{unchanged_leaves}
use Rattle.publishing.proofs.publish_run.publish_from.Goals as goal

pub returns-clause-published : goal.returns-clause-published
returns-clause-published g c =
    let seen = g.S.EditionFolder.seen in
    let old = seen c.args.store.now in
    let between = seen c.folder_policy.new.store in
    let read = c.in_ok-policy_text in
    published_from (g.B.Source.seen c.args.base.now) (g.B.Source.seen c.read_whole.new.source) old between (seen c.publish_base.new.store)
    c.in_ok-base_text.base_text.items read.policy_text.items c.args.asked.now.new_callers
    c.publish_base.result (unchanged_leaves old between c.requires.held read.ensures.unchanged) read.ensures.there c.in_ok-base_text.ensures.whole c.publish_base.ensures.published
