use Rattle.toml_places.proofs.SpanStands as lemmas
use Rattle.toml_places.proofs.laws.spans_stand.Goals as goal

pub returns : goal.returns
returns c = lemmas.spans_stand
