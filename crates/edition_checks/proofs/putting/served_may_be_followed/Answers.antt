use Rattle.edition_checks.proofs.FollowLaws.{served_followed}
use Rattle.edition_checks.proofs.putting.served_may_be_followed.Goals as goal

pub returns : goal.returns
returns c = served_followed
