use Rattle.publishing.proofs.ServingLaws.{current_leaves}
use Rattle.publishing.proofs.serving.make_current.Goals as goal

pub returns-in_err-set_current-clause-sound : goal.returns-in_err-set_current-clause-sound
returns-in_err-set_current-clause-sound g c =
    let seen = g.S.EditionFolder.seen in
    current_leaves (seen c.args.store.now) (seen c.set_current.new.self) c.args.left c.set_current.result c.requires.there c.set_current.ensures
