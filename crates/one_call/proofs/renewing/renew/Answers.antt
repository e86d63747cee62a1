use Rattle.one_call.proofs.Renewed.{renewed_none, renewed_other}
use Rattle.one_call.proofs.renewing.renew.Goals as goal

pub returns-in-Some-clause-renewed : goal.returns-in-Some-clause-renewed
returns-in-Some-clause-renewed g c =
    renewed_other (g.F.EditionFolder.seen c.args.folder.now) c.args.served.now c.in-Some.new c.in-Some.ensures.reached c.in-Some.ensures.current c.in-Some.ensures.other

pub returns-in_default-clause-renewed : goal.returns-in_default-clause-renewed
returns-in_default-clause-renewed g c = renewed_none (g.F.EditionFolder.seen c.args.folder.now) c.args.served.now
