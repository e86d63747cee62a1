use Rattle.served_bytes.proofs.Top.{top_is_shown}
use Rattle.served_bytes.proofs.laws.top_is_shown.Goals as goal

pub returns : goal.returns
returns c = top_is_shown
