use Rattle.edition_checks.proofs.PutLaws.{leaves_then}
use Rattle.publishing.proofs.PublishLaws.{published_after}
use Rattle.publishing.proofs.publish_run.publish_base.Goals as goal

pub returns-clause-published : goal.returns-clause-published
returns-clause-published g c =
    let seen = g.S.EditionFolder.seen in
    published_after (seen c.args.store.now) (seen c.served_edition.new.store) (seen c.publish_texts.new.store) c.args.texts.base.items c.args.texts.policy.items c.args.asked.now.new_callers
    c.publish_texts.result c.in_ok-served.ensures.sound c.publish_texts.ensures.published

pub returns-clause-sound : goal.returns-clause-sound
returns-clause-sound g c =
    let seen = g.S.EditionFolder.seen in
    leaves_then (seen c.args.store.now) (seen c.served_edition.new.store) (seen c.publish_texts.new.store) c.in_ok-served.ensures.sound c.publish_texts.ensures.sound
