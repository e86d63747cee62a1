use Rattle.edition_checks.proofs.Reached.{reached_before}
use Rattle.one_call.proofs.renewing.new_edition.Goals as goal

pub returns-in-Ok-reach_edition-clause-reached : goal.returns-in-Ok-reach_edition-clause-reached
returns-in-Ok-reach_edition-clause-reached g c =
    let seen = g.F.EditionFolder.seen in
    reached_before (seen c.args.folder.now) (seen c.current_number.new.folder) c.args.served.now c.in-Ok-reach_edition.new c.in-Ok.ensures.later c.in-Ok-reach_edition.ensures.reached
