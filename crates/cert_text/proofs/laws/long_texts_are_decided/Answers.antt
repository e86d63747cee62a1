use Rattle.cert_text.proofs.Bounded.{decided}
use Rattle.cert_text.proofs.laws.long_texts_are_decided.Goals as goal

pub returns : goal.returns
returns c = decided
