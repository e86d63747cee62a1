use Rattle.publishing.proofs.ServingLaws.{follows_line}
use Rattle.publishing.proofs.serving.is_follows.Goals as goal

pub returns-in-Some-Some : goal.returns-in-Some-Some
returns-in-Some-Some c =
    follows_line c.args.text.now c.follows_in.result c.in-Some-Some.field-0 c.in-Some-Some.number c.args.before c.follows_in.ensures c.in-Some-Some.is c.in-Some-Some.field-0-is
