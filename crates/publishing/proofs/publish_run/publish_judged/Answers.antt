use Rattle.std.specs.Prelude.{Ok}
use Rattle.publishing.specs.Publishing.{IsPublished}
use Rattle.publishing.proofs.PublishLaws.{published_now, published_said}
use Rattle.publishing.proofs.publish_run.publish_judged.Goals as goal

pub returns-clause-published : goal.returns-clause-published
returns-clause-published g c =
    let seen = g.S.EditionFolder.seen in
    let old = seen c.args.store.now in
    let new = seen c.put_unless_dry.new.store in
    let base = c.args.texts.base.items in
    let policy = c.args.texts.policy.items in
    let status = c.in_ok-status.status in
    published_said c.say_done.result status (IsPublished old new base policy c.args.asked.now.new_callers) c.say_done.ensures
    (published_now old new base policy c.args.asked.now.new_callers c.args.asked.now.dry_run c.args.candidate c.args.served.now c.args.follows (Ok status)
    c.requires.checked c.requires.serves c.requires.following c.in_ok-status.ensures.put c.in_ok-status.ensures.written)
