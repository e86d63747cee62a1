use Rattle.edition_lists.proofs.RightEditions.{verified_run, safe_in}
use Rattle.edition_lists.proofs.verifying.run_verify.Goals as goal

pub returns-in-Ok-clause-verified : goal.returns-in-Ok-clause-verified
returns-in-Ok-clause-verified g c =
    let said = c.in-Ok.said in
    verified_run (g.S.EditionFolder.seen c.args.store.now) c.args.folder.now said.text.items said.status
    (g.O.Sink.seen c.args.out.now) (g.O.Sink.seen c.say.new.out) c.say.result c.in-Ok.ensures.said c.say.ensures

pub returns-in-Ok-clause-safe : goal.returns-in-Ok-clause-safe
returns-in-Ok-clause-safe g c is =
    let said = c.in-Ok.said in
    safe_in (g.S.EditionFolder.seen c.args.store.now).state
    (verified_run (g.S.EditionFolder.seen c.args.store.now) c.args.folder.now said.text.items said.status
    (g.O.Sink.seen c.args.out.now) (g.O.Sink.seen c.say.new.out) c.say.result c.in-Ok.ensures.said c.say.ensures is)
