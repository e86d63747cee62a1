use Rattle.edition_checks.proofs.PutLaws.{leaves_then}
use Rattle.publishing.proofs.serving.served_edition.Goals as goal

pub returns-clause-sound : goal.returns-clause-sound
returns-clause-sound g c =
    let seen = g.S.EditionFolder.seen in
    leaves_then (seen c.args.store.now) (seen c.remove_left_parts.new.store) (seen c.served_last.new.store) c.in_ok-remove_left_parts.ensures.sound c.served_last.ensures.sound
