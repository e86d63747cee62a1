use Rattle.toml_places.proofs.SpanReads as lemmas
use Rattle.toml_places.proofs.laws.spans_are_read.Goals as goal

pub returns : goal.returns
returns c = lemmas.spans_are_read
