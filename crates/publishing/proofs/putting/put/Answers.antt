use Rattle.publishing.proofs.PublishLaws.{can_follow}
use Rattle.publishing.proofs.putting.put.Goals as goal

pub put_candidate-requires-clause-follow : goal.put_candidate-requires-clause-follow
put_candidate-requires-clause-follow g c =
    can_follow (g.S.EditionFolder.seen c.args.store.now).state c.args.served.now c.args.candidate c.args.new_callers c.args.follows c.requires.serves c.requires.following
