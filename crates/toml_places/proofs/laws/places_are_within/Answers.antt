use Rattle.toml_places.proofs.Within as lemmas
use Rattle.toml_places.proofs.laws.places_are_within.Goals as goal

pub returns : goal.returns
returns c = lemmas.places_are_within
