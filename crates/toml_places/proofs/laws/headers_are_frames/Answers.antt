use Rattle.toml_places.proofs.Counting as lemmas
use Rattle.toml_places.proofs.laws.headers_are_frames.Goals as goal

pub returns : goal.returns
returns c = lemmas.headers_are_frames
